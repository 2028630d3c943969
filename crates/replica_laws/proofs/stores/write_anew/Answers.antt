use Rattle.std.proofs.Common.{◌≡◌, ◌∙◌, ◌++◌, ◌∷◌, [], ℕ, ◌<◌, ◌≤◌, ◌^◌, arith, refl, sym, ap, subst}
use Rattle.text_store.specs.declared.image.Image.{Image}
use Rattle.text_store.specs.Files.{IsWritable, next_generation}
use Rattle.text_store.specs.Standing.{IsPartDone, StandFor, rewrite_of}
use Rattle.text_store.specs.Stores.{MayShow, Throughout, disks, limit_of}
use Rattle.text_store.proofs.Both.{less_said}
use Rattle.replica_laws.specs.Lives.{Records, anew}
use Rattle.replica_laws.specs.Stored.{HasRecords, HaveEither, IsWhole}
use Rattle.replica_laws.proofs.Kept.{anew_has, both_ok, frames_here}
use Rattle.replica_laws.proofs.Opened.{same_number, stand, writes_of}
use Rattle.replica_laws.proofs.stores.write_anew.Goals as goal

pub returns-clause-anew : goal.returns-clause-anew
returns-clause-anew g c =
    both_ok c.checkpoint.result c.checkpoint.ensures.acknowledged c.checkpoint.ensures.beside (λ acknowledged beside. λ before after has same can becomes.
    let here : HasRecords c.checkpoint.new.self (anew c.args.image.now) =
    anew_has (limit_of c.args.store.now) (next_generation c.args.store.now.generation) c.args.image.now c.requires.revision c.requires.writable can c.checkpoint.new.self
    (acknowledged before.shown has.held) (beside before.shown has.held).1 in
    subst (λ (r : Records). HasRecords c.checkpoint.new.self r) (ap anew same ∙ sym becomes) here)

pub returns-clause-torn : goal.returns-clause-torn
returns-clause-torn g c = λ failed before after has same can becomes.
    let old = c.args.store.now in
    let new = c.checkpoint.new.self in
    let small : limit_of old < 2 ^ 64 = omega (arith, c.limit-limit.type_inv, c.limit-limit.ensures) in
    let part = c.checkpoint.ensures.torn failed before.shown has.held in
    record {
      task = rewrite_of old before.shown has.held.beside;
      front = has.held.front;
      entries = has.held.entries;
      part = subst (λ (i : Image). IsPartDone new has.held.front has.held.entries before.shown (rewrite_of old i has.held.beside)) same part;
      may = subst (λ (r : Records). MayShow new before.shown r.shown) (sym becomes)
          (subst (λ (i : Image). MayShow new before.shown i) same (c.checkpoint.ensures.fault failed before.shown has.held));
      makes = writes_of new.generation old.generation (limit_of old) before after
          (same_number new.in_second old.in_second new.generation old.generation (has.held.front ++ 0 ∷ []) has.held.beside has.held.beside before.shown part.leads has.held.leads) small
          (subst (λ (i : Image). i.revision ≤ 2 ^ 62) same c.requires.revision) (subst IsWritable same c.requires.writable) (subst IsWhole same can) becomes;
      are = frames_here old before has;
    }

pub returns-clause-any_moment : goal.returns-clause-any_moment
returns-clause-any_moment g c = λ before after has same can becomes tell.
    let old = c.args.store.now in
    let new = c.checkpoint.new.self in
    let small : limit_of old < 2 ^ 64 = omega (arith, c.limit-limit.type_inv, c.limit-limit.ensures) in
    less_said g.D.Disk (disks old) (disks new) (StandFor old.in_second has.held.front (rewrite_of old before.shown has.held.beside)) (HaveEither before after)
    (stand has.held.front has.held.entries has.held.settled.is_half old.in_second old.generation before after (frames_here old before has) (rewrite_of old before.shown has.held.beside)
    old.one_of_three has.held.leads
    (writes_of old.generation old.generation (limit_of old) before after refl small (subst (λ (i : Image). i.revision ≤ 2 ^ 62) same c.requires.revision)
    (subst IsWritable same c.requires.writable) (subst IsWhole same can) becomes))
    (subst (λ (i : Image). Throughout g.D.Disk (disks old) (disks new) (StandFor old.in_second has.held.front (rewrite_of old i has.held.beside))) same
    (c.checkpoint.ensures.left before.shown has.held tell))
