-- Texts that stand in place.
use Rattle.std.proofs.Common.{◌≡◌, ℕ, true, List, [], length, take, ap, ◌∙◌}
use Rattle.std.specs.Prelude.{IsUtf8}
use Rattle.std.specs.Str.{is_utf8}
use Rattle.std.proofs.lemmas.Str.{is_utf8-from_IsUtf8, IsUtf8-nil}

-- the front of some bytes that is a text is in UTF-8
pub front_utf8 : (text bytes : List ℕ) → IsUtf8 text → take (length text) bytes ≡ text → is_utf8 (take (length text) bytes) ≡ true
front_utf8 text bytes utf8 front = ap is_utf8 front ∙ is_utf8-from_IsUtf8 text utf8

pub none_utf8 : is_utf8 [] ≡ true
none_utf8 = is_utf8-from_IsUtf8 [] IsUtf8-nil
