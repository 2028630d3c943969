-- Stores at rest, and stores of which a repair is due.
use Rattle.std.proofs.Common.{◌≡◌, ◌⊎◌, inl, inr, ⊎_elim, ℕ, List, [], ◌∷◌, ◌++◌, ◌<◌, ◌≤◌, length, take, arith, Bool, true, false, if◌then◌else◌, ◌==◌, ◌+◌, ◌%◌, Option, Some, None, Ok, refl, sym, ◌∙◌, ap, subst}
use Rattle.std.proofs.lemmas.List.{take-take, take_all}
use Rattle.std.proofs.lemmas.Bool.{cases_lt}
use Rattle.hl_base.specs.Disk.{Cut}
use Rattle.hl_base.specs.declared.disk.Disk.{Ghosts}
use Rattle.text_store.specs.declared.image.Image.{Image}
use Rattle.text_store.specs.declared.store.Store.{Store}
use Rattle.text_store.specs.Entries.{Entry, open_entries, open_from}
use Rattle.text_store.specs.Halves.{HasEitherImage}
use Rattle.text_store.specs.Image.{Half, image_of, live, chosen}
use Rattle.text_store.specs.Rest.{RestsAs, StandsIn, IsAt}
use Rattle.text_store.specs.Settled.{IsSettled, IsUnsettled}
use Rattle.text_store.specs.Stores.{Shows, ShowsEither, image_beside, IsChosen, Leads, Holds, MayShow, FrontsShow}
use Rattle.text_store.proofs.Both.{Beside, leaves_of, tell_live, tell_spare}
use Rattle.text_store.proofs.HalfImages.{either_image}

pub live_empty : live [] ≡ None
unfolding open_entries open_from
live_empty = refl

-- the chosen half is chosen
pub choice : (in_second : Bool) (generation : ℕ) (half : Half) (other : Option Half) → half.generation ≡ generation → IsChosen in_second generation other
    → (if in_second then chosen other (Some half) else chosen (Some half) other) ≡ Some half
choice true generation half None is is_chosen = refl
choice false generation half None is is_chosen = refl
choice true generation half (Some other) is is_chosen =
    ap (λ (n : ℕ). if n == (other.generation + 1) % 3 then Some half else Some other) is ∙ ap (λ (b : Bool). if b then Some half else Some other) is_chosen
choice false generation half (Some other) is is_chosen =
    ap (λ (n : ℕ). if other.generation == (n + 1) % 3 then Some other else Some half) is ∙ ap (λ (b : Bool). if b then Some other else Some half) is_chosen

-- the image of two files of which one leads
pub led : (in_second : Bool) (generation : ℕ) (file beside : List ℕ) (shown : Image) → Leads in_second generation file beside shown → image_beside in_second file beside ≡ Ok shown
led true generation file beside shown leads =
    ap (λ (h : Option Half). image_of (chosen (live beside) h) beside) leads.is_live
    ∙ ap (λ (h : Option Half). image_of h beside) (choice true generation leads.half (live beside) leads.is_next leads.is_chosen) ∙ leads.gives
led false generation file beside shown leads =
    ap (λ (h : Option Half). image_of (chosen h (live beside)) file) leads.is_live
    ∙ ap (λ (h : Option Half). image_of h file) (choice false generation leads.half (live beside) leads.is_next leads.is_chosen) ∙ leads.gives

-- a live half is chosen beside an empty file
pub alone : (in_second : Bool) (generation : ℕ) (file beside : List ℕ) (shown : Image) → Leads in_second generation file beside shown → Leads in_second generation file [] shown
alone in_second generation file beside shown leads = record {
  half = leads.half;
  is_live = leads.is_live;
  is_next = leads.is_next;
  is_chosen = subst (λ (o : Option Half). IsChosen in_second generation o) (sym live_empty) tt;
  gives = leads.gives;
}

-- two files in their places show what their image is
pub shown_at : (in_second : Bool) (file beside : List ℕ) (shown : Image) → image_beside in_second file beside ≡ Ok shown → Beside in_second (Shows shown) file beside
shown_at true file beside shown is = is
shown_at false file beside shown is = is

pub either_at : (in_second : Bool) (file beside : List ℕ) (one other : Image) → (image_beside in_second file beside ≡ Ok one) ⊎ (image_beside in_second file beside ≡ Ok other)
    → Beside in_second (ShowsEither one other) file beside
either_at true file beside one other is = is
either_at false file beside one other is = is

-- a file that has the image of one of two, beside the other in its place
pub of_either : (in_second : Bool) (before after file beside : List ℕ) (one other : Image) → HasEitherImage beside before after file
    → image_beside in_second before beside ≡ Ok one → image_beside in_second after beside ≡ Ok other
    → (image_beside in_second file beside ≡ Ok one) ⊎ (image_beside in_second file beside ≡ Ok other)
of_either true before after file beside one other (inl same) is_one is_other = inl (same.1 ∙ is_one)
of_either true before after file beside one other (inr same) is_one is_other = inr (same.1 ∙ is_other)
of_either false before after file beside one other (inl same) is_one is_other = inl (same.0 ∙ is_one)
of_either false before after file beside one other (inr same) is_one is_other = inr (same.0 ∙ is_other)

-- a file that has either image beside the other has it whole
pub whole_front : (in_second : Bool) (live_file file : List ℕ) (one other : Image) → FrontsShow in_second live_file one other file
    → (image_beside in_second live_file file ≡ Ok one) ⊎ (image_beside in_second live_file file ≡ Ok other)
whole_front in_second live_file file one other fronts =
    subst (λ (f : List ℕ). (image_beside in_second live_file f ≡ Ok one) ⊎ (image_beside in_second live_file f ≡ Ok other)) (take_all (length file) file (omega arith)) (fronts (length file))

-- what a cut leaves of such a file is such a file
pub cut_front : (in_second : Bool) (live_file : List ℕ) (one other : Image) (n : ℕ) (file c : List ℕ) → FrontsShow in_second live_file one other file → Cut n file c
    → FrontsShow in_second live_file one other c
cut_front in_second live_file one other n file c fronts cut k = ⊎_elim long short (cases_lt (length c) k)
  where
    long : length c < k → (image_beside in_second live_file (take k c) ≡ Ok one) ⊎ (image_beside in_second live_file (take k c) ≡ Ok other)
    long past =
        subst (λ (f : List ℕ). (image_beside in_second live_file f ≡ Ok one) ⊎ (image_beside in_second live_file f ≡ Ok other))
        (cut.front ∙ sym (take_all k c (omega (arith, past)))) (fronts (length c))

    short : k ≤ length c → (image_beside in_second live_file (take k c) ≡ Ok one) ⊎ (image_beside in_second live_file (take k c) ≡ Ok other)
    short within =
        subst (λ (f : List ℕ). (image_beside in_second live_file f ≡ Ok one) ⊎ (image_beside in_second live_file f ≡ Ok other))
        (sym (take-take k (length c) file within) ∙ ap (λ (f : List ℕ). take k f) cut.front) (fronts k)

pub leads_on : (a b : Bool) (m n : ℕ) (file beside : List ℕ) (shown : Image) → b ≡ a → n ≡ m → Leads a m file beside shown → Leads b n file beside shown
leads_on a b m n file beside shown same_place same_number leads =
    subst (λ (x : Bool). Leads x n file beside shown) (sym same_place) (subst (λ (x : ℕ). Leads a x file beside shown) (sym same_number) leads)

module _ {D : Type 0} {g : Ghosts D} (store : Store D g) (front : List ℕ) (entries : List Entry) where
  pub holds : (beside : List ℕ) (shown : Image) → IsSettled g.seen g.tells_crashes g.may_leave store.live front entries
      → RestsAs g.seen g.tells_crashes g.may_leave store.spare beside → Leads store.in_second store.generation (front ++ 0 ∷ []) beside shown → Holds store shown
  holds beside shown settled rests leads = record {
    front = front;
    entries = entries;
    beside = beside;
    settled = settled;
    rests = rests;
    leads = leads;
    shows = λ tell.
        leaves_of g store.in_second store.live.device store.spare (λ c. c ≡ front ++ 0 ∷ []) (λ c. c ≡ beside) (Shows shown)
        (settled.rests.durable (tell_live g store.in_second store.live.device store.spare tell)) (rests.durable (tell_spare g store.in_second store.live.device store.spare tell))
        (λ file other is is_other. shown_at store.in_second file other shown
        (ap (λ (f : List ℕ). image_beside store.in_second f other) is ∙ ap (λ (f : List ℕ). image_beside store.in_second (front ++ 0 ∷ []) f) is_other
        ∙ led store.in_second store.generation (front ++ 0 ∷ []) beside shown leads));
  }

  pub torn_in_use : (entry beside : List ℕ) (shown other : Image) → (store.live.is_torn ≡ true) × (store.is_torn ≡ false)
      → IsUnsettled g.seen g.tells_crashes g.may_leave store.live front entries entry
      → RestsAs g.seen g.tells_crashes g.may_leave store.spare beside → Leads store.in_second store.generation (front ++ 0 ∷ []) beside shown
      → Leads store.in_second store.generation (front ++ 1 ∷ entry) beside other → MayShow store shown other
  torn_in_use entry beside shown other is_due unsettled rests leads after = record {
    torn = inl (record {
      front = front;
      entries = entries;
      entry = entry;
      beside = beside;
      is_due = is_due;
      unsettled = unsettled;
      rests = rests;
      leads = leads;
      after = after;
    });
    shows = λ tell.
        leaves_of g store.in_second store.live.device store.spare (IsAt front entry) (λ c. c ≡ beside) (ShowsEither shown other)
        (unsettled.stands.left (tell_live g store.in_second store.live.device store.spare tell)) (rests.durable (tell_spare g store.in_second store.live.device store.spare tell))
        (λ file aside at is_other. either_at store.in_second file aside shown other
        (subst (λ (f : List ℕ). (image_beside store.in_second file f ≡ Ok shown) ⊎ (image_beside store.in_second file f ≡ Ok other)) (sym is_other)
        (of_either store.in_second (front ++ 0 ∷ []) (front ++ 1 ∷ entry) file beside shown other
        (either_image front entries unsettled.is_half entry beside file unsettled.is_record at)
        (led store.in_second store.generation (front ++ 0 ∷ []) beside shown leads)
        (led store.in_second store.generation (front ++ 1 ∷ entry) beside other after))));
  }

  pub torn_beside : (shown other : Image) → (store.live.is_torn ≡ false) × (store.is_torn ≡ true)
      → IsSettled g.seen g.tells_crashes g.may_leave store.live front entries
      → StandsIn g.seen g.tells_crashes g.may_leave store.spare (FrontsShow store.in_second (front ++ 0 ∷ []) shown other)
      → Leads store.in_second store.generation (front ++ 0 ∷ []) [] shown → MayShow store shown other
  torn_beside shown other is_due settled stands leads = record {
    torn = inr (record { front = front; entries = entries; is_due = is_due; settled = settled; stands = stands; leads = leads });
    shows = λ tell.
        leaves_of g store.in_second store.live.device store.spare (λ c. c ≡ front ++ 0 ∷ []) (FrontsShow store.in_second (front ++ 0 ∷ []) shown other) (ShowsEither shown other)
        (settled.rests.durable (tell_live g store.in_second store.live.device store.spare tell)) (stands.left (tell_spare g store.in_second store.live.device store.spare tell))
        (λ file aside is fronts. either_at store.in_second file aside shown other
        (subst (λ (f : List ℕ). (image_beside store.in_second f aside ≡ Ok shown) ⊎ (image_beside store.in_second f aside ≡ Ok other)) (sym is)
        (whole_front store.in_second (front ++ 0 ∷ []) aside shown other fronts)));
  }
