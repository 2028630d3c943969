use Rattle.std.proofs.Common.{◌≡◌, ◌∙◌, ◌^◌, ◌≤◌, inl, [], Option, None, Some, IfSome, refl, sym, ap, subst}
use Rattle.text_store.specs.declared.image.Image.{Image}
use Rattle.text_store.specs.Edits.{whole_size}
use Rattle.text_store.specs.Refusals.{Told}
use Rattle.text_store.specs.Stores.{Throughout}
use Rattle.text_store.specs.Files.{IsWritable, WhileMade}
use Rattle.text_store.proofs.Both.{stays}
use Rattle.text_store.proofs.Opened.{if_ok_two}
use Rattle.follower.specs.Accepting.{disks_of}
use Rattle.follower.specs.Images.{snapshot}
use Rattle.follower.specs.Stands.{Stands}
use Rattle.follower.proofs.Following.{some_one}
use Rattle.follower.proofs.Kept.{kept}
use Rattle.follower.proofs.Taking.{if_err_map, unmade_of}
use Rattle.follower.proofs.follower.Follower.create.Goals as goal

pub returns-then-frame-ne67-clause-any_moment : goal.returns-then-frame-ne67-clause-any_moment
returns-then-frame-ne67-clause-any_moment g c = λ f s is_first is_second tell shown is. stays g.D.Disk (c.args.first, c.args.second) _ (λ a b of_first of_second. inl (of_first, of_second))

pub returns-then-frame-ne67-clause-keeps : goal.returns-then-frame-ne67-clause-keeps
returns-then-frame-ne67-clause-keeps g c = kept g.D.Disk (c.args.first, c.args.second) (c.args.limit, c.args.limit)

pub returns-in-Err-clause-any_moment : goal.returns-in-Err-clause-any_moment
returns-in-Err-clause-any_moment g c = λ f s is_first is_second tell shown is. stays g.D.Disk (c.args.first, c.args.second) _ (λ a b of_first of_second. inl (of_first, of_second))

pub returns-in-Err-clause-keeps : goal.returns-in-Err-clause-keeps
returns-in-Err-clause-keeps g c = kept g.D.Disk (c.args.first, c.args.second) (c.args.limit, c.args.limit)

pub returns-in-None-clause-any_moment : goal.returns-in-None-clause-any_moment
returns-in-None-clause-any_moment g c = λ f s is_first is_second tell shown is. stays g.D.Disk (c.args.first, c.args.second) _ (λ a b of_first of_second. inl (of_first, of_second))

pub returns-in-None-clause-keeps : goal.returns-in-None-clause-keeps
returns-in-None-clause-keeps g c = kept g.D.Disk (c.args.first, c.args.second) (c.args.limit, c.args.limit)

pub returns-in-None-clause-cause : goal.returns-in-None-clause-cause
returns-in-None-clause-cause g c = (c.if-frame-ne67.false, refl, sym c.in-Ok.ensures.image ∙ c.in-None.is, refl)

pub create_of-requires-clause-writable : goal.create_of-requires-clause-writable
create_of-requires-clause-writable g c =
    (subst (λ (o : Option Image). IfSome o (λ image. IsWritable image × (image.revision ≤ 2 ^ 62) × (image.revision ≡ c.args.frame.now.revision))) c.in-Some.is c.in-Ok.ensures.writable).0

pub create_of-requires-clause-revision : goal.create_of-requires-clause-revision
create_of-requires-clause-revision g c =
    (subst (λ (o : Option Image). IfSome o (λ image. IsWritable image × (image.revision ≤ 2 ^ 62) × (image.revision ≡ c.args.frame.now.revision))) c.in-Some.is c.in-Ok.ensures.writable).1

pub returns-in-Some-clause-made : goal.returns-in-Some-clause-made
returns-in-Some-clause-made g c =
    let shown_is : snapshot c.args.frame.now ≡ Some c.in-Some.image = sym c.in-Ok.ensures.image ∙ c.in-Some.is in
    if_ok_two c.create_of.result _ _ _
    (λ made is held. (
      c.if-frame-ne67.false,
      shown_is ∙ ap (λ (i : Image). Some i) (sym is),
      subst (λ (i : Image). Told g.D.Disk (c.args.first, c.args.second) (λ f s. (f ≡ []) × (s ≡ []) × Stands made.store i None)) (sym is) held,
    ))
    c.create_of.ensures.image c.create_of.ensures.made

pub returns-in-Some-clause-numbers : goal.returns-in-Some-clause-numbers
returns-in-Some-clause-numbers g c =
    if_ok_two c.create_of.result _ _ _ (λ made is numbers. (numbers.0 ∙ ap whole_size (sym is), numbers.1)) c.create_of.ensures.image c.create_of.ensures.numbers

pub returns-in-Some-clause-cause : goal.returns-in-Some-clause-cause
returns-in-Some-clause-cause g c =
    let shown_is : snapshot c.args.frame.now ≡ Some c.in-Some.image = sym c.in-Ok.ensures.image ∙ c.in-Some.is in
    if_err_map c.create_of.result _ _
    (λ e refused. unmade_of g.D.Disk (c.args.first, c.args.second) (e.0, e.1) c.args.frame.now c.in-Some.image c.args.limit e.2 c.if-frame-ne67.false shown_is refused)
    c.create_of.ensures.cause

pub returns-in-Some-clause-any_moment : goal.returns-in-Some-clause-any_moment
returns-in-Some-clause-any_moment g c = λ f s is_first is_second tell shown is.
    let shown_is : snapshot c.args.frame.now ≡ Some c.in-Some.image = sym c.in-Ok.ensures.image ∙ c.in-Some.is in
    let same : c.in-Some.image ≡ shown = some_one (snapshot c.args.frame.now) c.in-Some.image shown shown_is is in
    subst (λ (i : Image). Throughout g.D.Disk (c.args.first, c.args.second) (disks_of c.create_of.result) (WhileMade g.D.Disk (c.args.first, c.args.second) i)) same
    (c.create_of.ensures.any_moment f s is_first is_second tell)
