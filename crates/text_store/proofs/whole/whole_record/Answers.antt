use Rattle.std.proofs.Common.{◌≡◌, ◌<◌, ◌^◌, ◌++◌, ◌∷◌, [], length, arith, ap, rules}
use Rattle.text_store.specs.Entries.{body}
use Rattle.text_store.specs.Files.{whole_payload}
use Rattle.text_store.proofs.HalfImages.{length_record}
use Rattle.text_store.proofs.Wholes.{length_whole}
use Rattle.text_store.proofs.whole.whole_record.Goals as goal

pub returns-clause-fits : goal.returns-clause-fits
returns-clause-fits c =
    let shown = c.args.image.now in
    let bytes : c.push-2.new.self.items ≡ body 67 (whole_payload shown) ++ 0 ∷ [] = search rules in
    let small : length c.push-2.new.self.items < 2 ^ 63 = search rules in
    omega (arith, length_whole shown, length_record 67 (whole_payload shown), ap length bytes, small)
