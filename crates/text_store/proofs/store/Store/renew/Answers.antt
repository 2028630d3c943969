use Rattle.std.proofs.Common.{◌≡◌, ◌∙◌, ◌<◌, ◌^◌, ◌++◌, ◌∷◌, [], List, ℕ, max, rules, refl, sym, ap, subst, arith, length, append_assoc, Some}
use Rattle.hl_base.specs.Disk.{LeavesOnly}
use Rattle.text_store.specs.Edits.{whole_size}
use Rattle.text_store.specs.Entries.{body}
use Rattle.text_store.specs.Files.{header, whole_payload, ShowsOf}
use Rattle.text_store.specs.Rest.{RestsAs, StandsIn, IsRewritten}
use Rattle.text_store.specs.Stores.{Throughout, Keeps}
use Rattle.text_store.proofs.HalfImages.{length_record}
use Rattle.text_store.proofs.Opening.{both_shows, renew_torn, renewing, renewed}
use Rattle.text_store.proofs.Wholes.{length_whole}
use Rattle.text_store.proofs.store.Store.renew.Goals as goal

pub returns-in_default-clause-any_moment : goal.returns-in_default-clause-any_moment
returns-in_default-clause-any_moment g c f s first second none is tell = both_shows g.D.Disk c.args.first c.args.second f s c.args.shown.now first second is tell

pub returns-in_default-whole_record-clause-any_moment : goal.returns-in_default-whole_record-clause-any_moment
returns-in_default-whole_record-clause-any_moment g c f s first second none is tell = both_shows g.D.Disk c.args.first c.args.second f s c.args.shown.now first second is tell

pub returns-in-Err-clause-any_moment : goal.returns-in-Err-clause-any_moment
returns-in-Err-clause-any_moment g c f s first second none is tell =
    let d = g.D.Disk in
    let shown = c.args.shown.now in
    let limit = c.max-limit.result in
    let small : limit < 2 ^ 64 = search rules in
    let are = c.in-Ok-whole_record.ensures.are_states in
    let fits : length (whole_payload shown) < 2 ^ 64 = omega (arith, length_whole shown, c.in-Ok-whole_record.ensures.fits) in
    let head = header limit 1 shown.revision in
    let same : c.deref.result.now ≡ head ++ 0 ∷ [] = c.deref.ensures.value ∙ c.in-Ok.ensures in
    let entry : c.deref-2.result.now ≡ body 67 (whole_payload shown) ++ 0 ∷ [] = c.deref-2.ensures.value ∙ c.in-Ok-whole_record.ensures.bytes in
    renewing limit shown small c.requires.revision c.requires.writable are fits f s none d g.met.D.Disk.counts_now c.args.first c.args.second c.write_anew.new.device is first second tell
    (subst (λ (l : List ℕ). LeavesOnly d.moment d.left_since c.args.second c.write_anew.new.device (IsRewritten s head l)) entry
    (c.write_anew.ensures.any_moment s head same second tell.1)) c.write_anew.ensures.comes

pub returns-in-Err-clause-keeps : goal.returns-in-Err-clause-keeps
returns-in-Err-clause-keeps g c =
    let shown = c.args.shown.now in
    let entry = c.deref-2.ensures.value ∙ c.in-Ok-whole_record.ensures.bytes in
    record {
      tells_first = refl;
      tells_second = c.write_anew.ensures.tells;
      unfailing_first = refl;
      unfailing_second = c.write_anew.ensures.unfailing;
      reach_first = omega arith;
      reach_second = omega (arith, c.write_anew.ensures.reach, length_whole shown, length_record 67 (whole_payload shown), ap length entry);
      later_first = omega arith;
      later_second = c.write_anew.ensures.cause.later;
    }

pub returns-clause-opened : goal.returns-clause-opened
returns-clause-opened g c f s first second none =
    let d = g.D.Disk in
    let shown = c.args.shown.now in
    let limit = c.max-limit.result in
    let small : limit < 2 ^ 64 = search rules in
    let are = c.in-Ok-whole_record.ensures.are_states in
    let fits : length (whole_payload shown) < 2 ^ 64 = omega (arith, length_whole shown, c.in-Ok-whole_record.ensures.fits) in
    let head = header limit 1 shown.revision in
    let same : c.deref.result.now ≡ head ++ 0 ∷ [] = c.deref.ensures.value ∙ c.in-Ok.ensures in
    let entry : c.deref-2.result.now ≡ body 67 (whole_payload shown) ++ 0 ∷ [] = c.deref-2.ensures.value ∙ c.in-Ok-whole_record.ensures.bytes in
    let written = c.in-Ok-write_anew.ensures.done s head same second in
    renewed limit shown small c.requires.revision c.requires.writable are fits f s none _ refl refl
    (omega (arith, c.new.ensures.gate, c.whole_len-size.ensures, c.in-Ok-whole_record.ensures.fits, length_whole shown, length_record 67 (whole_payload shown)))
    (subst (λ (x : _). RestsAs d.seen d.tells_crashes d.may_leave x (head ++ 1 ∷ (body 67 (whole_payload shown) ++ 0 ∷ []))) (sym c.new.ensures.device)
    (subst (λ (l : List ℕ). RestsAs d.seen d.tells_crashes d.may_leave c.write_anew.new.device (head ++ 1 ∷ l)) entry written)) first

pub returns-clause-bytes : goal.returns-clause-bytes
returns-clause-bytes g c s second =
    let d = g.D.Disk in
    let shown = c.args.shown.now in
    let limit = c.max-limit.result in
    let head = header limit 1 shown.revision in
    let same : c.deref.result.now ≡ head ++ 0 ∷ [] = c.deref.ensures.value ∙ c.in-Ok.ensures in
    let entry : c.deref-2.result.now ≡ body 67 (whole_payload shown) ++ 0 ∷ [] = c.deref-2.ensures.value ∙ c.in-Ok-whole_record.ensures.bytes in
    ap d.seen c.new.ensures.device ∙ (c.in-Ok-write_anew.ensures.done s head same second).told
    ∙ ap (λ (l : List ℕ). Some (head ++ 1 ∷ l)) entry
    ∙ ap (λ (l : List ℕ). Some l) (sym (append_assoc head (1 ∷ body 67 (whole_payload shown)) (0 ∷ [])))
    ∙ ap (λ (n : ℕ). Some ((header n 1 shown.revision ++ 1 ∷ body 67 (whole_payload shown)) ++ 0 ∷ [])) (sym c.new.ensures.limit)

pub returns-clause-any_moment : goal.returns-clause-any_moment
returns-clause-any_moment g c f s first second none is tell =
    let d = g.D.Disk in
    let shown = c.args.shown.now in
    let limit = c.max-limit.result in
    let small : limit < 2 ^ 64 = search rules in
    let are = c.in-Ok-whole_record.ensures.are_states in
    let fits : length (whole_payload shown) < 2 ^ 64 = omega (arith, length_whole shown, c.in-Ok-whole_record.ensures.fits) in
    let head = header limit 1 shown.revision in
    let same : c.deref.result.now ≡ head ++ 0 ∷ [] = c.deref.ensures.value ∙ c.in-Ok.ensures in
    let entry : c.deref-2.result.now ≡ body 67 (whole_payload shown) ++ 0 ∷ [] = c.deref-2.ensures.value ∙ c.in-Ok-whole_record.ensures.bytes in
    subst (λ (x : _). Throughout d (c.args.first, c.args.second) (c.args.first, x) (ShowsOf d (c.args.first, c.args.second) f s shown)) (sym c.new.ensures.device)
    (renewing limit shown small c.requires.revision c.requires.writable are fits f s none d g.met.D.Disk.counts_now c.args.first c.args.second c.write_anew.new.device is first second tell
    (subst (λ (l : List ℕ). LeavesOnly d.moment d.left_since c.args.second c.write_anew.new.device (IsRewritten s head l)) entry
    (c.write_anew.ensures.any_moment s head same second tell.1)) c.write_anew.ensures.comes)

pub returns-clause-keeps : goal.returns-clause-keeps
returns-clause-keeps g c =
    let shown = c.args.shown.now in
    let entry = c.deref-2.ensures.value ∙ c.in-Ok-whole_record.ensures.bytes in
    subst (λ (x : _). Keeps g.D.Disk (c.args.first, c.args.second) (c.args.first, x) (0, max c.args.limit (whole_size shown))) (sym c.new.ensures.device) (
    record {
      tells_first = refl;
      tells_second = c.write_anew.ensures.tells;
      unfailing_first = refl;
      unfailing_second = c.write_anew.ensures.unfailing;
      reach_first = omega arith;
      reach_second = omega (arith, c.write_anew.ensures.reach, length_whole shown, length_record 67 (whole_payload shown), ap length entry);
      later_first = omega arith;
      later_second = c.write_anew.ensures.cause.later;
    })

pub returns-in_default-clause-stays : goal.returns-in_default-clause-stays
returns-in_default-clause-stays g c = λ is. absurd cc

pub returns-in_default-whole_record-clause-stays : goal.returns-in_default-whole_record-clause-stays
returns-in_default-whole_record-clause-stays g c = λ is. absurd cc

pub returns-in-Err-clause-stays : goal.returns-in-Err-clause-stays
returns-in-Err-clause-stays g c failed f s first second none is =
    let d = g.D.Disk in
    let shown = c.args.shown.now in
    let limit = c.max-limit.result in
    let small : limit < 2 ^ 64 = search rules in
    let are = c.in-Ok-whole_record.ensures.are_states in
    let fits : length (whole_payload shown) < 2 ^ 64 = omega (arith, length_whole shown, c.in-Ok-whole_record.ensures.fits) in
    let head = header limit 1 shown.revision in
    let same : c.deref.result.now ≡ head ++ 0 ∷ [] = c.deref.ensures.value ∙ c.in-Ok.ensures in
    let entry : c.deref-2.result.now ≡ body 67 (whole_payload shown) ++ 0 ∷ [] = c.deref-2.ensures.value ∙ c.in-Ok-whole_record.ensures.bytes in
    renew_torn limit shown small c.requires.revision c.requires.writable are fits f s none d c.args.first c.write_anew.new.device first is
    (subst (λ (l : List ℕ). StandsIn d.seen d.tells_crashes d.may_leave c.write_anew.new.device (IsRewritten s head l)) entry
    (c.in-Err.ensures.fault s head same second))
