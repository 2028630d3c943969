-- What the disks may still show after a legal history.
use Rattle.std.proofs.Common.{◌≡◌, inl, inr, false, List, [], ◌∷◌, Option, refl, ap, subst, ◌∙◌}
use Rattle.std.specs.Prelude.{All}
use Rattle.std.proofs.lemmas.List.Elements.{All-cons, All-nil}
use Rattle.hl_base.specs.declared.disk.Disk.{Ghosts}
use Rattle.text_store.specs.declared.image.Image.{Image}
use Rattle.turn_lock.specs.declared.known.Entered.{Entered}
use Rattle.desk.specs.declared.desk.Desk.{Desk}
use Rattle.desk.specs.Desks.{IsServed, shown_by, state_of}
use Rattle.desk.specs.Entries.{Entry}
use Rattle.desk.specs.Stands.{IsPending, Stands}
use Rattle.desk.specs.States.{answer_to}
use Rattle.desk.specs.Steps.{is_done, next_of}
use Rattle.shared_desk.specs.Histories.{IsLegal, IsRefused, MayBeLeft}

abbrev NotDone : Entered Entry → Type 0
NotDone x = is_done x.entry.reply ≡ false

module _ {D : Type 0} {g : Ghosts D} where
  -- an edit that was refused later
  refused_later : (opening mid : Desk D g) (x : Entered Entry) (xs : List (Entered Entry)) (after : Option Image)
      → IsServed opening x.entry mid → IsRefused mid xs after → IsRefused opening (x ∷ xs) after
  refused_later opening mid x xs after served r = record {
    earlier = x ∷ r.earlier;
    refused = r.refused;
    later = r.later;
    before = r.before;
    whole = ap (λ (ys : List (Entered Entry)). x ∷ ys) r.whole;
    led = (mid, served, r.led);
    fault = r.fault;
    none_since = r.none_since;
    would = r.would;
  }

  -- what was left after the first entry, where no later one was acknowledged
  first_left : (opening mid : Desk D g) (x : Entered Entry) (xs : List (Entered Entry)) (pending one after : Option Image)
      → IsPending pending (next_of (answer_to (state_of opening) x.entry.day.0 x.entry.request)) x.entry.reply one
      → All NotDone xs → after ≡ one → MayBeLeft opening (x ∷ xs) pending after
  first_left opening mid x xs pending one after (inl none) quiet is = inl (is ∙ none)
  first_left opening mid x xs pending one after (inr (inl same)) quiet is = inr (inl (All-cons NotDone x xs same.0 quiet, is ∙ same.1))
  first_left opening mid x xs pending one after (inr (inr fault)) quiet is = inr (inr record {
    earlier = [];
    refused = x;
    later = xs;
    before = opening;
    whole = refl;
    led = refl;
    fault = fault.0;
    none_since = quiet;
    would = is ∙ fault.1;
  })

  left_on : (opening mid : Desk D g) (x : Entered Entry) (xs : List (Entered Entry)) (pending one after : Option Image)
      → IsServed opening x.entry mid
      → IsPending pending (next_of (answer_to (state_of opening) x.entry.day.0 x.entry.request)) x.entry.reply one
      → MayBeLeft mid xs one after → MayBeLeft opening (x ∷ xs) pending after
  left_on opening mid x xs pending one after served first (inl none) = inl none
  left_on opening mid x xs pending one after served first (inr (inl quiet)) =
      first_left opening mid x xs pending one after first quiet.0 quiet.1
  left_on opening mid x xs pending one after served first (inr (inr refused)) =
      inr (inr (refused_later opening mid x xs after served refused))

  pub left : (opening last : Desk D g) (history : List (Entered Entry)) (pending : Option Image)
      → IsLegal opening history last → Stands opening.store (shown_by opening) pending
      → (after : Option Image) × MayBeLeft opening history pending after × Stands last.store (shown_by last) after
  left opening last [] pending is stands =
      (pending, inr (inl (All-nil NotDone, refl)), subst (λ (d : Desk D g). Stands d.store (shown_by d) pending) is stands)
  left opening last (x ∷ xs) pending is stands =
      let mid : Desk D g = is.0 in
      let one = is.1.serves.stands pending stands in
      let rest = left mid last xs one.0 is.2 one.2 in
      (rest.0, left_on opening mid x xs pending one.0 rest.0 is.1 one.1 rest.1, rest.2)
