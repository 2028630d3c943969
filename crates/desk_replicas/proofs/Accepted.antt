-- The edits of a legal history, and its places.
use Rattle.std.proofs.Common.{◌≡◌, ◌∙◌, inl, inr, ℕ, zero, suc, Bool, true, false, List, [], ◌∷◌, map, Option, None, Some, Result, Ok, Err, refl, sym, ap, subst}
use Rattle.std.proofs.lemmas.Bool.{false≢true}
use Rattle.hl_base.specs.declared.disk.Disk.{Ghosts}
use Rattle.book.specs.declared.transaction.Txn.{Txn}
use Rattle.live_journal.specs.declared.edit.Edit.TheVariants as edits
use Rattle.live_journal.specs.Loading.{first_of}
use Rattle.text_store.specs.declared.change.Change.{Change}
use Rattle.text_store.specs.declared.image.Image.{Image}
use Rattle.text_store.specs.Edits.{edited}
use Rattle.follower.specs.Histories.{IsAfter}
use Rattle.follower.proofs.Following.{some_one}
use Rattle.turn_lock.specs.declared.known.Entered.{Entered}
use Rattle.desk.specs.declared.csv_fault.CsvFault.{CsvFault}
use Rattle.desk.specs.declared.deed.Deed.{Deed}
use Rattle.desk.specs.declared.desk.Desk.{Desk}
use Rattle.desk.specs.declared.reply.Reply.{Reply}
use Rattle.desk.specs.declared.request.Allow.{Allow}
use Rattle.desk.specs.declared.request.Allow.TheVariants as allow
use Rattle.desk.specs.declared.request.Request.{Request}
use Rattle.desk.specs.declared.request.Request.TheVariants as request
use Rattle.desk.specs.Desks.{IsServed, faults_of, shown_by, state_of}
use Rattle.desk.specs.Entries.{Entry}
use Rattle.desk.specs.Imports.{entries_of, new_deed, pattern_lines}
use Rattle.desk.specs.States.{Answer, State, answer_to, change_of, deed_answer, deed_in, edit_answer, file_answer, forbidden, image_of, or_done, or_replies, plain, refusals, refused_line, unless_forbidden}
use Rattle.desk.specs.Steps.{Gives, Stays, is_done}
use Rattle.shared_desk.specs.Histories.{IsLegal}
use Rattle.shared_desk.proofs.Changing.{done_change}
use Rattle.replica_laws.specs.Lives.{Event, GoesOn, LeadOver, Records, changes_in}
use Rattle.desk_replicas.specs.Edits.{HasEdits, IsAPlace}

-- ---- an answer that isn't done leaves the state

quiet_or_done : (s : State) (d : Deed) (o : Option Reply) → is_done (or_done s d o).reply ≡ false → (or_done s d o).state ≡ s
quiet_or_done s d None e = absurd (false≢true (sym e))
quiet_or_done s d (Some r) e = refl

edit_quiet : (s : State) (need : Allow) (d : Deed) → is_done (edit_answer s need d).reply ≡ false → (edit_answer s need d).state ≡ s
edit_quiet s need d e = quiet_or_done s d (first_of (refusals s need d)) e

new_quiet : (s : State) (o : Option Deed) → is_done (deed_answer s o).reply ≡ false → (deed_answer s o).state ≡ s
new_quiet s None e = refl
new_quiet s (Some d) e = edit_quiet s allow.Add d e

file_quiet : (s : State) (name : List ℕ) (file : Result (List Txn) CsvFault) → is_done (file_answer s name file).reply ≡ false → (file_answer s name file).state ≡ s
file_quiet s name (Ok txns) e = new_quiet s (new_deed s.text s.latest name txns) e
file_quiet s name (Err fault) e = refl

unless_quiet : (s : State) (o : Option Reply) (answer : Answer) → (is_done answer.reply ≡ false → answer.state ≡ s)
    → is_done (unless_forbidden s o answer).reply ≡ false → (unless_forbidden s o answer).state ≡ s
unless_quiet s None answer quiet e = quiet e
unless_quiet s (Some r) answer quiet e = refl

answer_quiet : (s : State) (day : ℕ) (q : Request) → is_done (answer_to s day q).reply ≡ false → (answer_to s day q).state ≡ s
unfolding answer_to
answer_quiet s day (request.Report words) e = refl
answer_quiet s day request.Download e = refl
answer_quiet s day (request.Add entry) e = edit_quiet s allow.Add (plain (edits.Add entry)) e
answer_quiet s day (request.Change base item entry) e = edit_quiet s allow.Edit (plain (edits.Change base item entry)) e
answer_quiet s day (request.Replace base text) e = edit_quiet s allow.Edit (plain (edits.Replace base text)) e
answer_quiet s day (request.Import name rules csv) e =
    unless_quiet s (forbidden s.allowed allow.Add) (or_replies (map refused_line (pattern_lines rules)) (file_answer s name (entries_of rules csv)))
    (λ not. file_quiet s name (entries_of rules csv) not) e
answer_quiet s day (request.Check entry) e = refl
answer_quiet s day (request.Preview name rules csv) e = refl

stays_image : (s : State) (d : Option Deed) (new : State) → Stays s d new → image_of new ≡ image_of s
stays_image s d new (inl same) = ap image_of same
stays_image s d new (inr sized) = ap image_of sized

-- a step whose reply isn't done leaves the image
quiet_gives : (answer : Answer) (d : Option Deed) (s : State) (before : ℕ) (r : Reply) (new : State) (after : ℕ) → (is_done answer.reply ≡ false → answer.state ≡ s)
    → Gives answer d s before r new after → is_done r ≡ false → image_of new ≡ image_of s
quiet_gives answer d s before r new after quiet (inl h) e = ap image_of (h.1 ∙ quiet (sym (ap is_done h.0) ∙ e))
quiet_gives answer d s before r new after quiet (inr (inl h)) e = stays_image s d new h.1
quiet_gives answer d s before r new after quiet (inr (inr (inl h))) e = stays_image s d new h.3
quiet_gives answer d s before r new after quiet (inr (inr (inr h))) e = ap image_of h.1

module _ {D : Type 0} {g : Ghosts D} where
  quiet_step : (before after : Desk D g) (entry : Entry) → IsServed before entry after → is_done entry.reply ≡ false → shown_by after ≡ shown_by before
  quiet_step before after entry served e =
      let s = state_of before in
      quiet_gives (answer_to s entry.day.0 entry.request) (deed_in s entry.request) s (faults_of before) entry.reply (state_of after) (faults_of after)
      (λ not. answer_quiet s entry.day.0 entry.request not) served.serves.gives e

  -- ---- the edits of a history

  abbrev Found : Desk D g → List (Entered Entry) → Desk D g → Type 0
  Found opening history last = (edits : List Change) × HasEdits opening history last edits

  at_first : (opening : Desk D g) (history : List (Entered Entry)) (shown : Image) → shown ≡ shown_by opening → IsAPlace opening history shown
  at_first opening history shown is = record { earlier = []; later = history; whole = refl; here = opening; led = refl; is = is }

  further : (opening mid : Desk D g) (x : Entered Entry) (xs : List (Entered Entry)) (shown : Image) → IsServed opening x.entry mid → IsAPlace mid xs shown
      → IsAPlace opening (x ∷ xs) shown
  further opening mid x xs shown served place = record {
    earlier = x ∷ place.earlier;
    later = place.later;
    whole = ap (λ (l : List (Entered Entry)). x ∷ l) place.whole;
    here = place.here;
    led = (mid, served, place.led);
    is = place.is;
  }

  no_history : (opening last : Desk D g) → opening ≡ last → Found opening [] last
  no_history opening last is = (
    [],
    record { made = ap shown_by (sym is); places = λ n shown after. none n shown after },
  )
    where
      none : (n : ℕ) (shown : Image) → IsAfter (shown_by opening) n [] shown → IsAPlace opening [] shown
      none zero shown after = at_first opening [] shown after
      none (suc n) shown after = absurd after

  module _ (opening mid last : Desk D g) (x : Entered Entry) (xs : List (Entered Entry)) (served : IsServed opening x.entry mid) (rest : Found mid xs last) where
    with_edit : (change : Change) → edited (shown_by opening) change ≡ Some (shown_by mid) → Found opening (x ∷ xs) last
    with_edit change makes = (
      change ∷ rest.0,
      record { made = (shown_by mid, makes, rest.1.made); places = λ n shown after. places n shown after },
    )
      where
        places : (n : ℕ) (shown : Image) → IsAfter (shown_by opening) n (change ∷ rest.0) shown → IsAPlace opening (x ∷ xs) shown
        places zero shown after = at_first opening (x ∷ xs) shown after
        places (suc n) shown after =
            let same = some_one (edited (shown_by opening) change) after.0 (shown_by mid) after.1 makes in
            further opening mid x xs shown served
            (rest.1.places n shown (subst (λ (i : Image). IsAfter i n rest.0 shown) same after.2))

    without : shown_by mid ≡ shown_by opening → Found opening (x ∷ xs) last
    without same = (
      rest.0,
      record {
        made = subst (λ (i : Image). LeadOver i rest.0 (shown_by last)) same rest.1.made;
        places = λ n shown after.
            further opening mid x xs shown served (rest.1.places n shown (subst (λ (i : Image). IsAfter i n rest.0 shown) (sym same) after));
      },
    )

    by_reply : (done : Bool) → is_done x.entry.reply ≡ done → Found opening (x ∷ xs) last
    by_reply true is = let c = done_change opening mid x.entry served is in with_edit (change_of (state_of opening).text c.0) c.2
    by_reply false is = without (quiet_step opening mid x.entry served is)

  pub edits_of : (opening last : Desk D g) (history : List (Entered Entry)) → IsLegal opening history last → Found opening history last
  edits_of opening last [] legal = no_history opening last legal
  edits_of opening last (x ∷ xs) legal =
      by_reply opening legal.0 last x xs legal.1 (edits_of legal.0 last xs legal.2) (is_done x.entry.reply) refl

  pub at_place : (opening last : Desk D g) (history : List (Entered Entry)) (those : List Change) (records : Records) (events : List Event) (n : ℕ) (shown end : Image)
      → HasEdits opening history last those → records.start ≡ shown_by opening → changes_in records events ≡ those → GoesOn records events n shown end
      → IsAPlace opening history end
  at_place opening last history those records events n shown end has start are goes =
      has.places goes.0 end
      (subst (λ (l : List Change). IsAfter (shown_by opening) goes.0 l end) are
      (subst (λ (i : Image). IsAfter i goes.0 (changes_in records events) end) start goes.4))
