use Rattle.std.proofs.Common.{◌≡◌, ◌∙◌, rules, ◌<◌, ◌≤◌, ◌^◌, ◌+◌, ◌++◌, ◌∷◌, [], List, ℕ, inl, refl, sym, ap, subst, arith, length, append_assoc, Some}
use Rattle.hl_base.specs.Disk.{LeavesOnly}
use Rattle.text_store.specs.Entries.{body}
use Rattle.text_store.specs.Files.{header, whole_payload, WhileMade}
use Rattle.text_store.specs.Rest.{RestsAs, IsBegun}
use Rattle.text_store.specs.Stores.{Throughout, Keeps}
use Rattle.text_store.proofs.Both.{stays, then_on}
use Rattle.text_store.proofs.HalfImages.{length_record}
use Rattle.text_store.proofs.Making.{made, first_rests, second_rests, written}
use Rattle.text_store.proofs.Resting.{tells_still}
use Rattle.text_store.proofs.Wholes.{length_whole}
use Rattle.text_store.proofs.store.Store.create_image.Goals as goal

pub returns-then-size-limit-clause-any_moment : goal.returns-then-size-limit-clause-any_moment
returns-then-size-limit-clause-any_moment g c f s is_first is_second tell = stays g.D.Disk (c.args.first, c.args.second) _ (λ first second of_first of_second. inl (of_first, of_second))

pub returns-in_default-clause-any_moment : goal.returns-in_default-clause-any_moment
returns-in_default-clause-any_moment g c f s is_first is_second tell = stays g.D.Disk (c.args.first, c.args.second) _ (λ first second of_first of_second. inl (of_first, of_second))

pub returns-in_default-whole_record-clause-any_moment : goal.returns-in_default-whole_record-clause-any_moment
returns-in_default-whole_record-clause-any_moment g c f s is_first is_second tell = stays g.D.Disk (c.args.first, c.args.second) _ (λ first second of_first of_second. inl (of_first, of_second))

pub returns-in-Err-clause-any_moment : goal.returns-in-Err-clause-any_moment
returns-in-Err-clause-any_moment g c f s is_first is_second tell =
    let d = g.D.Disk in
    let f0 = c.args.first in
    let s0 = c.args.second in
    let f1 = c.rest_empty.new.device in
    let shown = c.args.image.now in
    let limit = c.args.limit in
    let small : limit < 2 ^ 64 = search rules in
    let are = c.in-Ok-whole_record.ensures.are_states in
    let fits : length (whole_payload shown) < 2 ^ 64 = omega (arith, length_whole shown, c.in-Ok-whole_record.ensures.fits) in
    first_rests limit shown small c.requires.revision c.requires.writable are fits g.met.D.Disk.counts_now f0 s0 f1 c.rest_empty.ensures.any_moment

pub returns-in-Err-rest_empty-clause-any_moment : goal.returns-in-Err-rest_empty-clause-any_moment
returns-in-Err-rest_empty-clause-any_moment g c f s is_first is_second tell =
    let d = g.D.Disk in
    let f0 = c.args.first in
    let s0 = c.args.second in
    let f1 = c.rest_empty.new.device in
    let shown = c.args.image.now in
    let limit = c.args.limit in
    let small : limit < 2 ^ 64 = search rules in
    let are = c.in-Ok-whole_record.ensures.are_states in
    let fits : length (whole_payload shown) < 2 ^ 64 = omega (arith, length_whole shown, c.in-Ok-whole_record.ensures.fits) in
    let s1 = c.rest_empty-in-Ok-rest_empty.new.device in
    let begun = then_on d (f0, s0) (f1, s0) (f1, s1) (WhileMade d (f0, s0) shown)
    (first_rests limit shown small c.requires.revision c.requires.writable are fits g.met.D.Disk.counts_now f0 s0 f1 c.rest_empty.ensures.any_moment)
    (second_rests limit shown small c.requires.revision c.requires.writable are fits g.met.D.Disk.counts_now f0 s0 f1 s1 c.rest_empty.ensures.no_more c.rest_empty-in-Ok-rest_empty.ensures.any_moment) in
    begun

pub returns-in-Err-write_new-clause-any_moment : goal.returns-in-Err-write_new-clause-any_moment
returns-in-Err-write_new-clause-any_moment g c f s is_first is_second tell =
    let d = g.D.Disk in
    let f0 = c.args.first in
    let s0 = c.args.second in
    let f1 = c.rest_empty.new.device in
    let shown = c.args.image.now in
    let limit = c.args.limit in
    let small : limit < 2 ^ 64 = search rules in
    let are = c.in-Ok-whole_record.ensures.are_states in
    let fits : length (whole_payload shown) < 2 ^ 64 = omega (arith, length_whole shown, c.in-Ok-whole_record.ensures.fits) in
    let s1 = c.rest_empty-in-Ok-rest_empty.new.device in
    let begun = then_on d (f0, s0) (f1, s0) (f1, s1) (WhileMade d (f0, s0) shown)
    (first_rests limit shown small c.requires.revision c.requires.writable are fits g.met.D.Disk.counts_now f0 s0 f1 c.rest_empty.ensures.any_moment)
    (second_rests limit shown small c.requires.revision c.requires.writable are fits g.met.D.Disk.counts_now f0 s0 f1 s1 c.rest_empty.ensures.no_more c.rest_empty-in-Ok-rest_empty.ensures.any_moment) in
    let f2 = c.write_new.new.device in
    let head = header limit 1 shown.revision in
    let entry = body 67 (whole_payload shown) ++ 0 ∷ [] in
    let same : c.deref.result.now ≡ head ++ 0 ∷ [] = c.deref.ensures.value ∙ c.in-Ok.ensures in
    let written_entry : c.deref-in-Ok-rest_empty-2.result.now ≡ entry = c.deref-in-Ok-rest_empty-2.ensures.value ∙ c.in-Ok-whole_record.ensures.bytes in
    let rests = (c.in-Ok-rest_empty.ensures.rests f is_first).1 in
    let beside = (c.in-Ok-rest_empty-2.ensures.rests s is_second).1 in
    let run = then_on d (f0, s0) (f1, s1) (f2, s1) (WhileMade d (f0, s0) shown) begun
    (written limit shown small c.requires.revision c.requires.writable are fits g.met.D.Disk.counts_now f0 s0 f1 f2 s1
    (beside.durable (tells_still _ _ c.rest_empty-in-Ok-rest_empty.ensures.tells tell.1))
    (subst (λ (l : List ℕ). LeavesOnly d.moment d.left_since f1 f2 (IsBegun head l)) written_entry
    (c.write_new.ensures.any_moment head same rests (tells_still _ _ c.rest_empty.ensures.tells tell.0)))) in
    run

pub returns-in-Err-write_new-clause-keeps : goal.returns-in-Err-write_new-clause-keeps
returns-in-Err-write_new-clause-keeps g c =
    let shown = c.args.image.now in
    let entry = c.deref-in-Ok-rest_empty-2.ensures.value ∙ c.in-Ok-whole_record.ensures.bytes in
    let within : 33 + length c.deref-in-Ok-rest_empty-2.result.now ≤ c.args.limit =
    omega (arith, c.if-size-limit.false, c.whole_len-size.ensures, c.in-Ok-whole_record.ensures.fits, length_whole shown, length_record 67 (whole_payload shown), ap length entry) in
    record {
      tells_first = c.write_new.ensures.tells ∙ c.rest_empty.ensures.tells;
      tells_second = c.rest_empty-in-Ok-rest_empty.ensures.tells;
      unfailing_first = c.write_new.ensures.unfailing ∙ c.rest_empty.ensures.unfailing;
      unfailing_second = c.rest_empty-in-Ok-rest_empty.ensures.unfailing;
      reach_first = omega (arith, within, c.write_new.ensures.reach, c.rest_empty.ensures.reach);
      reach_second = omega (arith, c.rest_empty-in-Ok-rest_empty.ensures.reach);
      later_first = omega (arith, c.write_new.ensures.cause.later, c.rest_empty.ensures.later);
      later_second = c.rest_empty-in-Ok-rest_empty.ensures.later;
    }

pub returns-clause-keeps : goal.returns-clause-keeps
returns-clause-keeps g c =
    let shown = c.args.image.now in
    let entry = c.deref-in-Ok-rest_empty-2.ensures.value ∙ c.in-Ok-whole_record.ensures.bytes in
    let within : 33 + length c.deref-in-Ok-rest_empty-2.result.now ≤ c.args.limit =
    omega (arith, c.if-size-limit.false, c.whole_len-size.ensures, c.in-Ok-whole_record.ensures.fits, length_whole shown, length_record 67 (whole_payload shown), ap length entry) in
    subst (λ (x : _). Keeps g.D.Disk (c.args.first, c.args.second) (x, c.rest_empty-in-Ok-rest_empty.new.device) (c.args.limit, c.args.limit)) (sym c.new.ensures.device) (
    record {
      tells_first = c.write_new.ensures.tells ∙ c.rest_empty.ensures.tells;
      tells_second = c.rest_empty-in-Ok-rest_empty.ensures.tells;
      unfailing_first = c.write_new.ensures.unfailing ∙ c.rest_empty.ensures.unfailing;
      unfailing_second = c.rest_empty-in-Ok-rest_empty.ensures.unfailing;
      reach_first = omega (arith, within, c.write_new.ensures.reach, c.rest_empty.ensures.reach);
      reach_second = omega (arith, c.rest_empty-in-Ok-rest_empty.ensures.reach);
      later_first = omega (arith, c.write_new.ensures.cause.later, c.rest_empty.ensures.later);
      later_second = c.rest_empty-in-Ok-rest_empty.ensures.later;
    })

pub returns-clause-any_moment : goal.returns-clause-any_moment
returns-clause-any_moment g c f s is_first is_second tell =
    let d = g.D.Disk in
    let f0 = c.args.first in
    let s0 = c.args.second in
    let f1 = c.rest_empty.new.device in
    let shown = c.args.image.now in
    let limit = c.args.limit in
    let small : limit < 2 ^ 64 = search rules in
    let are = c.in-Ok-whole_record.ensures.are_states in
    let fits : length (whole_payload shown) < 2 ^ 64 = omega (arith, length_whole shown, c.in-Ok-whole_record.ensures.fits) in
    let s1 = c.rest_empty-in-Ok-rest_empty.new.device in
    let begun = then_on d (f0, s0) (f1, s0) (f1, s1) (WhileMade d (f0, s0) shown)
    (first_rests limit shown small c.requires.revision c.requires.writable are fits g.met.D.Disk.counts_now f0 s0 f1 c.rest_empty.ensures.any_moment)
    (second_rests limit shown small c.requires.revision c.requires.writable are fits g.met.D.Disk.counts_now f0 s0 f1 s1 c.rest_empty.ensures.no_more c.rest_empty-in-Ok-rest_empty.ensures.any_moment) in
    let f2 = c.write_new.new.device in
    let head = header limit 1 shown.revision in
    let entry = body 67 (whole_payload shown) ++ 0 ∷ [] in
    let same : c.deref.result.now ≡ head ++ 0 ∷ [] = c.deref.ensures.value ∙ c.in-Ok.ensures in
    let written_entry : c.deref-in-Ok-rest_empty-2.result.now ≡ entry = c.deref-in-Ok-rest_empty-2.ensures.value ∙ c.in-Ok-whole_record.ensures.bytes in
    let rests = (c.in-Ok-rest_empty.ensures.rests f is_first).1 in
    let beside = (c.in-Ok-rest_empty-2.ensures.rests s is_second).1 in
    let run = then_on d (f0, s0) (f1, s1) (f2, s1) (WhileMade d (f0, s0) shown) begun
    (written limit shown small c.requires.revision c.requires.writable are fits g.met.D.Disk.counts_now f0 s0 f1 f2 s1
    (beside.durable (tells_still _ _ c.rest_empty-in-Ok-rest_empty.ensures.tells tell.1))
    (subst (λ (l : List ℕ). LeavesOnly d.moment d.left_since f1 f2 (IsBegun head l)) written_entry
    (c.write_new.ensures.any_moment head same rests (tells_still _ _ c.rest_empty.ensures.tells tell.0)))) in
    subst (λ (x : _). Throughout d (f0, s0) (x, s1) (WhileMade d (f0, s0) shown)) (sym c.new.ensures.device) run

pub returns-clause-made : goal.returns-clause-made
returns-clause-made g c f s is_first is_second =
    let d = g.D.Disk in
    let f0 = c.args.first in
    let s0 = c.args.second in
    let f1 = c.rest_empty.new.device in
    let shown = c.args.image.now in
    let limit = c.args.limit in
    let small : limit < 2 ^ 64 = search rules in
    let are = c.in-Ok-whole_record.ensures.are_states in
    let fits : length (whole_payload shown) < 2 ^ 64 = omega (arith, length_whole shown, c.in-Ok-whole_record.ensures.fits) in
    let s1 = c.rest_empty-in-Ok-rest_empty.new.device in
    let f2 = c.write_new.new.device in
    let head = header limit 1 shown.revision in
    let entry = body 67 (whole_payload shown) ++ 0 ∷ [] in
    let same : c.deref.result.now ≡ head ++ 0 ∷ [] = c.deref.ensures.value ∙ c.in-Ok.ensures in
    let written_entry : c.deref-in-Ok-rest_empty-2.result.now ≡ entry = c.deref-in-Ok-rest_empty-2.ensures.value ∙ c.in-Ok-whole_record.ensures.bytes in
    let rests = (c.in-Ok-rest_empty.ensures.rests f is_first).1 in
    let beside = (c.in-Ok-rest_empty-2.ensures.rests s is_second).1 in
    let done : RestsAs d.seen d.tells_crashes d.may_leave f2 (head ++ 1 ∷ entry) =
    subst (λ (l : List ℕ). RestsAs d.seen d.tells_crashes d.may_leave f2 (head ++ 1 ∷ l)) written_entry (c.in-Ok-write_new.ensures.done head same rests) in (
      (c.in-Ok-rest_empty.ensures.rests f is_first).0,
      (c.in-Ok-rest_empty-2.ensures.rests s is_second).0,
      made limit shown small c.requires.revision c.requires.writable are fits _ refl refl
          (omega (arith, c.new.ensures.gate, c.whole_len-size.ensures, c.in-Ok-whole_record.ensures.fits, length_whole shown, length_record 67 (whole_payload shown)))
          (subst (λ (x : _). RestsAs d.seen d.tells_crashes d.may_leave x (head ++ 1 ∷ entry)) (sym c.new.ensures.device) done) beside,
    )

pub returns-clause-bytes : goal.returns-clause-bytes
returns-clause-bytes g c f s is_first is_second =
    let d = g.D.Disk in
    let f0 = c.args.first in
    let s0 = c.args.second in
    let f1 = c.rest_empty.new.device in
    let shown = c.args.image.now in
    let limit = c.args.limit in
    let small : limit < 2 ^ 64 = search rules in
    let are = c.in-Ok-whole_record.ensures.are_states in
    let fits : length (whole_payload shown) < 2 ^ 64 = omega (arith, length_whole shown, c.in-Ok-whole_record.ensures.fits) in
    let f2 = c.write_new.new.device in
    let head = header limit 1 shown.revision in
    let entry = body 67 (whole_payload shown) ++ 0 ∷ [] in
    let same : c.deref.result.now ≡ head ++ 0 ∷ [] = c.deref.ensures.value ∙ c.in-Ok.ensures in
    let written_entry : c.deref-in-Ok-rest_empty-2.result.now ≡ entry = c.deref-in-Ok-rest_empty-2.ensures.value ∙ c.in-Ok-whole_record.ensures.bytes in
    let rests = (c.in-Ok-rest_empty.ensures.rests f is_first).1 in
    let beside = (c.in-Ok-rest_empty-2.ensures.rests s is_second).1 in
    let done : RestsAs d.seen d.tells_crashes d.may_leave f2 (head ++ 1 ∷ entry) =
    subst (λ (l : List ℕ). RestsAs d.seen d.tells_crashes d.may_leave f2 (head ++ 1 ∷ l)) written_entry (c.in-Ok-write_new.ensures.done head same rests) in
    (ap d.seen c.new.ensures.device ∙ done.told ∙ ap (λ (l : List ℕ). Some l) (sym (append_assoc head (1 ∷ body 67 (whole_payload shown)) (0 ∷ []))), beside.told)
