use Rattle.std.proofs.Common.{◌≡◌, ◌∙◌, Result, Ok, sym, subst}
use Rattle.text_store.specs.declared.image.Image.{Image}
use Rattle.text_store.specs.Files.{rest_of}
use Rattle.text_store.specs.Image.{NoImage, image}
use Rattle.text_store.specs.Stores.{Holds}
use Rattle.replica_laws.proofs.Kept.{if_ok_two}
use Rattle.replica_laws.proofs.stores.open_records.Goals as goal

one_image : (r : Result Image NoImage) (a b : Image) → r ≡ Ok a → r ≡ Ok b → a ≡ b
one_image r a b is_a is_b = let e : a ≡ b = cc in e

pub returns : goal.returns
returns g c =
    if_ok_two c.open.result c.open.ensures.opened c.open.ensures.in_use (λ opened shows used. λ f s is_first is_second records has.
    let here = shows f s is_first is_second in
    record {
      held = subst (λ (i : Image). Holds opened.0 i) (one_image (image f s) opened.1 records.shown here.0 has.shows) here.1;
      file = rest_of f s;
      seen = used f s is_first is_second;
      are = has.are;
    })
