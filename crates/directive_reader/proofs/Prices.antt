-- What follows a word of a price.
use Rattle.std.proofs.Common.{◌≡◌, ℕ, ◌<◌, Bool, true, false, not, List, drop, refl}
use Rattle.std.specs.List.{prefix_len}
use Rattle.std.specs.Str.{is_utf8}
use Rattle.hl_base.specs.Items.{is_white}
use Rattle.entry_reader.proofs.Texts.{rest_utf8, stop_cut, white_below}
use Rattle.directive_reader.specs.Prices.{is_inked}

white_of : (t : Bool) → not t ≡ false → t ≡ true
white_of true e = refl
white_of false e = absurd cc

inked_below : (b : ℕ) → is_inked b ≡ false → b < 128
inked_below b e = white_below b (white_of (is_white b) e)

pub after_inked : (text : List ℕ) → is_utf8 text ≡ true → is_utf8 (drop (prefix_len is_inked text) text) ≡ true
after_inked text e = rest_utf8 text (prefix_len is_inked text) (stop_cut is_inked text inked_below) e
