-- Worked out by hand: what is put behind texts of each kind.
use Rattle.std.proofs.Common.{◌≡◌, codes, [], refl}
use Rattle.additions.specs.Adding.{added}

behind_nothing : added [] (codes "x") ≡ codes "x\n"
behind_nothing = refl

behind_entry : added (codes "2024-01-01 a\n") (codes "x\n") ≡ codes "\nx\n"
behind_entry = refl

behind_lacking : added (codes "2024-01-01 a") (codes "x\n") ≡ codes "\n\nx\n"
behind_lacking = refl

behind_remark : added (codes "; a\n") (codes "x") ≡ codes "\nx\n"
behind_remark = refl

behind_open_block : added (codes "comment\na") (codes "x") ≡ codes "\nend comment\n\nx\n"
behind_open_block = refl

behind_closed_block : added (codes "comment\nend comment\n") (codes "x") ≡ codes "\nx\n"
behind_closed_block = refl
