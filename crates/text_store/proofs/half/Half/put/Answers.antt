use Rattle.std.proofs.Common.{◌++◌, [], ◌∷◌, ◌∙◌, List, ℕ, arith, length, ap, sym, subst, append_assoc}
use Rattle.text_store.specs.Entries.{body}
use Rattle.text_store.specs.Rest.{StandsIn, IsAt}
use Rattle.text_store.specs.Halves.{HasEitherImage}
use Rattle.text_store.proofs.Moments.{weakened}
use Rattle.text_store.proofs.HalfImages.{either_image, length_record, length_grown, is_record, half_grows}
use Rattle.text_store.proofs.Resting.{rest_as, on_err_of}
use Rattle.text_store.proofs.half.Half.put.Goals as goal

pub returns-in_err-append_entry-clause-any_moment : goal.returns-in_err-append_entry-clause-any_moment
returns-in_err-append_entry-clause-any_moment g c front other entries kind payload bytes fits settled telling =
    let d = g.D.Disk in
    let entry = body kind payload ++ 0 ∷ [] in
    weakened d.moment d.left_since c.args.self.now.device c.append_entry.new.device (IsAt front c.args.entry.now) (HasEitherImage other (front ++ 0 ∷ []) (front ++ 1 ∷ entry))
    (c.append_entry.ensures.any_moment front settled.place settled.rests telling)
    (λ f at. either_image front entries settled.is_half entry other f (is_record kind payload fits) (subst (λ (l : List ℕ). IsAt front l f) bytes at))

pub returns-in_err-append_entry-clause-fault : goal.returns-in_err-append_entry-clause-fault
returns-in_err-append_entry-clause-fault g c = on_err_of c.from_residual.result (λ front entries kind payload bytes fits settled.
    let d = g.D.Disk in
    record {
      is_half = settled.is_half;
      place = settled.place;
      is_record = is_record kind payload fits;
      stands = subst (λ (l : List ℕ). StandsIn d.seen d.tells_crashes d.may_leave c.append_entry.new.device (IsAt front l)) bytes
          (c.in_err-append_entry.ensures.fault front settled.place settled.rests);
    })

-- the record is on the disk
pub returns-clause-acknowledged : goal.returns-clause-acknowledged
returns-clause-acknowledged g c front entries kind payload bytes fits settled =
    let d = g.D.Disk in
    record {
      is_half = half_grows kind payload fits front entries settled.is_half;
      place = omega (arith, length_grown kind payload front, settled.place, length_record kind payload, ap length bytes);
      rests = rest_as d.seen d.tells_crashes d.may_leave c.append_entry.new.device (front ++ 1 ∷ c.args.entry.now) ((front ++ 1 ∷ body kind payload) ++ 0 ∷ [])
          (ap (λ (l : List ℕ). front ++ 1 ∷ l) bytes ∙ sym (append_assoc front (1 ∷ body kind payload) (0 ∷ [])))
          (c.in_ok-append_entry.ensures.acknowledged front settled.place settled.rests);
    }

pub returns-clause-any_moment : goal.returns-clause-any_moment
returns-clause-any_moment g c front other entries kind payload bytes fits settled telling =
    let d = g.D.Disk in
    let entry = body kind payload ++ 0 ∷ [] in
    weakened d.moment d.left_since c.args.self.now.device c.append_entry.new.device (IsAt front c.args.entry.now) (HasEitherImage other (front ++ 0 ∷ []) (front ++ 1 ∷ entry))
    (c.append_entry.ensures.any_moment front settled.place settled.rests telling)
    (λ f at. either_image front entries settled.is_half entry other f (is_record kind payload fits) (subst (λ (l : List ℕ). IsAt front l f) bytes at))

pub returns-in_err-append_entry-clause-left : goal.returns-in_err-append_entry-clause-left
returns-in_err-append_entry-clause-left g c front place rests telling = c.append_entry.ensures.any_moment front place rests telling

pub returns-clause-left : goal.returns-clause-left
returns-clause-left g c front place rests telling = c.append_entry.ensures.any_moment front place rests telling
