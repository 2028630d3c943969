-- What opening two files comes to.
use Rattle.std.proofs.Common.{◌≡◌, ◌∙◌, inr, ℕ, List, Result, Ok, Err, IfOk, IfErr, refl, sym, subst, arith}
use Rattle.hl_base.specs.declared.disk.Disk.{Ghosts}
use Rattle.text_store.specs.declared.fault.StoreFault.{StoreFault}
use Rattle.text_store.specs.declared.fault.StoreFault.TheVariants.{DiskFault, NotAStore, Newer, Full, Exists, Memory}
use Rattle.text_store.specs.declared.finding.Place.{Place}
use Rattle.text_store.specs.declared.finding.Place.TheVariants.{Half as InHalf, Older}
use Rattle.text_store.specs.declared.image.Image.{Image}
use Rattle.text_store.specs.Files.{WhileOpened, ShowsOf}
use Rattle.text_store.specs.Found.{IsFound, ImageRefused}
use Rattle.text_store.specs.Image.{image}
use Rattle.text_store.specs.Refusals.{ImageStays, OpenRefused, ReadTheSame, Told}
use Rattle.text_store.specs.Rest.{IsReadOn}
use Rattle.text_store.specs.Stores.{placed, Tell, Throughout, Keeps}
use Rattle.text_store.proofs.Both.{then_on, less_said}
use Rattle.text_store.proofs.Opening.{in_place, found_image, image_placed}
use Rattle.text_store.proofs.Resting.{tells_still}

pub if_ok_map : {T E : Type 0} (r : Result T E) (P R : T → Type 0) → ((v : T) → P v → R v) → IfOk r P → IfOk r R
if_ok_map (Ok v) P R from p = from v p
if_ok_map (Err e) P R from p = tt

pub if_err_map : {T E : Type 0} (r : Result T E) (P R : E → Type 0) → ((e : E) → P e → R e) → IfErr r P → IfErr r R
if_err_map (Ok v) P R from p = tt
if_err_map (Err e) P R from p = from e p

pub if_ok_two : {T E : Type 0} (r : Result T E) (P Q R : T → Type 0) → ((v : T) → P v → Q v → R v) → IfOk r P → IfOk r Q → IfOk r R
if_ok_two (Ok v) P Q R from p q = from v p q
if_ok_two (Err e) P Q R from p q = tt

pub found_in : (a b f s : List ℕ) (shown : Image) (place : Place) → a ≡ f → b ≡ s → IsFound a b shown place → IsFound f s shown place
found_in a b f s shown place is_first is_second found = subst (λ (l : List ℕ). IsFound f l shown place) is_second (subst (λ (l : List ℕ). IsFound l b shown place) is_first found)

pub shown_by : (f s : List ℕ) (shown : Image) (place : Place) → IsFound f s shown place → image f s ≡ Ok shown
shown_by f s shown (InHalf u) found =
    sym (image_placed f s u.in_second) ∙ found_image (placed u.in_second f s).0 (placed u.in_second f s).1 u shown (in_place f s u.in_second u shown found)
shown_by f s shown (Older limit) found = found.1

module _ {D : Type 0} (g : Ghosts D) (first second first_1 second_1 : D) (reads : IsReadOn g first first_1 × IsReadOn g second second_1) where
  pub read_the_same : ReadTheSame g (first, second) (first_1, second_1)
  read_the_same = (reads.0.seen, reads.1.seen)

  pub image_stays : ImageStays g (first, second) (first_1, second_1)
  image_stays f s is_first is_second = (f, s, reads.0.seen ∙ is_first, reads.1.seen ∙ is_second, refl)

  pub keeps_after : (end : D × D) (ends : ℕ × ℕ) → Keeps g (first_1, second_1) end ends → Keeps g (first, second) end ends
  keeps_after end ends keeps = record {
    tells_first = keeps.tells_first ∙ reads.0.tells;
    tells_second = keeps.tells_second ∙ reads.1.tells;
    unfailing_first = keeps.unfailing_first ∙ reads.0.unfailing;
    unfailing_second = keeps.unfailing_second ∙ reads.1.unfailing;
    reach_first = omega (arith, keeps.reach_first, reads.0.reach);
    reach_second = omega (arith, keeps.reach_second, reads.1.reach);
    later_first = omega (arith, keeps.later_first, reads.0.later);
    later_second = omega (arith, keeps.later_second, reads.1.later);
  }

  pub tell_after : Tell g (first, second) → Tell g (first_1, second_1)
  tell_after tell = (tells_still (g.tells_crashes first_1) (g.tells_crashes first) reads.0.tells tell.0, tells_still (g.tells_crashes second_1) (g.tells_crashes second) reads.1.tells tell.1)

  pub refused_at : (a b : List ℕ) (fault : StoreFault) → Told g (first, second) (λ f s. (a ≡ f) × (b ≡ s)) → ImageRefused a b fault → OpenRefused g (first, second) (first_1, second_1) fault
  refused_at a b DiskFault told refused = absurd refused
  refused_at a b (NotAStore at) told refused = ((λ f s is_first is_second. let same = told f s is_first is_second in (λ i. image (sym same.0 i) (sym same.1 i)) ∙ refused), read_the_same)
  refused_at a b (Newer version) told refused = ((λ f s is_first is_second. let same = told f s is_first is_second in (λ i. image (sym same.0 i) (sym same.1 i)) ∙ refused), read_the_same)
  refused_at a b (Full size limit) told refused = absurd refused
  refused_at a b (Exists len) told refused = absurd refused
  refused_at a b Memory told refused = read_the_same

  pub opened_run : (f s : List ℕ) (shown : Image) (end : D × D) → image f s ≡ Ok shown
      → Throughout g (first, second) (first_1, second_1) (WhileOpened g (first, second) f s) → Throughout g (first_1, second_1) end (ShowsOf g (first_1, second_1) f s shown)
      → Throughout g (first, second) end (WhileOpened g (first, second) f s)
  opened_run f s shown end is before after =
      then_on g (first, second) (first_1, second_1) end (WhileOpened g (first, second) f s) before
      (less_said g (first_1, second_1) end (ShowsOf g (first_1, second_1) f s shown) (WhileOpened g (first, second) f s)
      (λ a b shows. inr ((reads.0.no_more f shows.0.0, reads.1.no_more s shows.0.1), shows.1 ∙ sym is)) after)
