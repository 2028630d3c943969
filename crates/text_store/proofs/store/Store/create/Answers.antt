use Rattle.std.proofs.Common.{◌≡◌, ◌++◌, ◌∷◌, [], inl, subst, IfOk, Some}
use Rattle.text_store.specs.declared.image.Image.{Image}
use Rattle.text_store.specs.Files.{fresh, new_front, WhileMade}
use Rattle.text_store.specs.Refusals.{Told}
use Rattle.text_store.specs.Stores.{disks, disks_made, Holds, Tell, Throughout}
use Rattle.text_store.proofs.Both.{stays}
use Rattle.text_store.proofs.store.Store.create.Goals as goal

pub returns-in_default-clause-any_moment : goal.returns-in_default-clause-any_moment
returns-in_default-clause-any_moment g c f s is_first is_second tell = stays g.D.Disk (c.args.first, c.args.second) _ (λ first second of_first of_second. inl (of_first, of_second))

pub returns-clause-made : goal.returns-clause-made
returns-clause-made g c =
    let image : Image = record { text = c.in-Ok.copy; latest = c.new.result; revision = 0 } in
    let same : image ≡ fresh c.args.text.now = λ i. record { text = c.in-Ok.ensures i; latest = c.new.ensures i; revision = 0 } in
    subst (λ (x : Image). IfOk c.create_image.result (λ store. Told g.D.Disk (c.args.first, c.args.second) (λ f s. (f ≡ []) × (s ≡ []) × Holds store x))) same c.create_image.ensures.made

pub returns-clause-bytes : goal.returns-clause-bytes
returns-clause-bytes g c =
    let image : Image = record { text = c.in-Ok.copy; latest = c.new.result; revision = 0 } in
    let same : image ≡ fresh c.args.text.now = λ i. record { text = c.in-Ok.ensures i; latest = c.new.ensures i; revision = 0 } in
    subst (λ (x : Image). IfOk c.create_image.result (λ store. Told g.D.Disk (c.args.first, c.args.second)
    (λ f s. (g.D.Disk.seen (disks store).0 ≡ Some (new_front c.args.limit 1 x ++ 0 ∷ [])) × (g.D.Disk.seen (disks store).1 ≡ Some [])))) same c.create_image.ensures.bytes

pub returns-clause-any_moment : goal.returns-clause-any_moment
returns-clause-any_moment g c =
    let image : Image = record { text = c.in-Ok.copy; latest = c.new.result; revision = 0 } in
    let same : image ≡ fresh c.args.text.now = λ i. record { text = c.in-Ok.ensures i; latest = c.new.ensures i; revision = 0 } in
    subst (λ (x : Image). Told g.D.Disk (c.args.first, c.args.second) (λ f s. Tell g.D.Disk (c.args.first, c.args.second)
    → Throughout g.D.Disk (c.args.first, c.args.second) (disks_made c.create_image.result) (WhileMade g.D.Disk (c.args.first, c.args.second) x))) same c.create_image.ensures.any_moment
