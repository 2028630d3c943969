-- A repair of either file.
use Rattle.std.proofs.Common.{◌≡◌, ◌⊎◌, inl, inr, ℕ, List, [], ◌∷◌, ◌++◌, take, Bool, true, false, IsTrue, Ok, sym, ◌∙◌, ap, subst, ◌≤◌}
use Rattle.hl_base.specs.declared.disk.Disk.{Ghosts}
use Rattle.hl_base.specs.Disk.{Cut, Becomes, Follows, LeavesOnly}
use Rattle.text_store.specs.declared.image.Image.{Image}
use Rattle.text_store.specs.declared.half.Half.{Half}
use Rattle.text_store.specs.declared.store.Store.{Store}
use Rattle.text_store.specs.Entries.{Entry}
use Rattle.text_store.specs.Halves.{HasEitherImage}
use Rattle.text_store.specs.Rest.{AfterStep, Comes, RestsAs, StandsIn}
use Rattle.text_store.specs.Settled.{IsSettled, IsUnsettled}
use Rattle.text_store.specs.Stores.{disks, Tell, Moves, Throughout, ShowsEither, image_beside, Holds, MayShow, IsTornInUse, IsTornBeside, FrontsShow}
use Rattle.text_store.specs.Stores.{placed}
use Rattle.text_store.proofs.Both.{once, moves_live, moves_spare, tell_live, tell_spare}
use Rattle.text_store.proofs.Holding.{holds, torn_in_use, torn_beside, cut_front, whole_front, leads_on, led, of_either, either_at}
use Rattle.text_store.proofs.Resting.{steps_on, outcome}

clash : {X : Type 0} → (b : Bool) → b ≡ true → b ≡ false → X
clash b is not = absurd (impossible (sym is ∙ not))
  where
    impossible : true ≡ false → ⊥
    impossible e = cc

pub torn_there : {D : Type 0} {g : Ghosts D} (old : Store D g) (shown other : Image) → MayShow old shown other → old.is_torn ≡ false → IsTornInUse old shown other
torn_there {D} {g} old shown other torn not_beside = of torn.torn
  where
    of : IsTornInUse old shown other ⊎ IsTornBeside old shown other → IsTornInUse old shown other
    of (inl tear) = tear
    of (inr aside) = clash old.is_torn aside.is_due.1 not_beside

module _ {D : Type 0} {g : Ghosts D} (old new : Store D g) (shown other : Image) (torn : MayShow old shown other)
    (same_place : new.in_second ≡ old.in_second) (same_number : new.generation ≡ old.generation) where
  -- the other file is emptied
  module _ (is_torn : old.is_torn ≡ true) (same_live : new.live ≡ old.live) where
    beside : IsTornBeside old shown other
    beside = of torn.torn
      where
        of : IsTornInUse old shown other ⊎ IsTornBeside old shown other → IsTornBeside old shown other
        of (inl in_use) = clash old.is_torn is_torn in_use.is_due.1
        of (inr aside) = aside

    still : IsSettled g.seen g.tells_crashes g.may_leave new.live beside.front beside.entries
    still = subst (λ (h : Half D g). IsSettled g.seen g.tells_crashes g.may_leave h beside.front beside.entries) (sym same_live) beside.settled

    pub emptied : Comes g.seen g.tells_crashes g.may_leave old.spare new.spare (λ file. take 0 file) → Holds new shown
    emptied comes =
        holds new beside.front beside.entries [] shown still (comes beside.stands.file beside.stands.told)
        (leads_on old.in_second new.in_second old.generation new.generation (beside.front ++ 0 ∷ []) [] shown same_place same_number beside.leads)

    pub not_emptied : new.is_torn ≡ true → Becomes (Cut 0) (g.seen old.spare) (g.seen new.spare) → Follows (Cut 0) (g.may_leave old.spare) (g.may_leave new.spare)
        → g.tells_crashes new.spare ≡ g.tells_crashes old.spare → MayShow new shown other
    not_emptied due partial crash tells =
        torn_beside new beside.front beside.entries shown other (ap (λ (h : Half D g). h.is_torn) same_live ∙ beside.is_due.0, due) still
        (subst (λ (b : Bool). StandsIn g.seen g.tells_crashes g.may_leave new.spare (FrontsShow b (beside.front ++ 0 ∷ []) shown other)) (sym same_place)
        (steps_on g.seen g.tells_crashes g.may_leave old.spare new.spare (FrontsShow old.in_second (beside.front ++ 0 ∷ []) shown other)
        (FrontsShow old.in_second (beside.front ++ 0 ∷ []) shown other) (Cut 0) beside.stands partial crash tells
        (λ d c fronts cut. cut_front old.in_second (beside.front ++ 0 ∷ []) shown other 0 d c fronts cut)))
        (leads_on old.in_second new.in_second old.generation new.generation (beside.front ++ 0 ∷ []) [] shown same_place same_number beside.leads)

    pub emptying : ((disk : D) (t : ℕ) (c : List ℕ) → t ≤ g.moment disk → g.may_leave disk c → g.left_since disk t c) → Tell g (disks old)
        → LeavesOnly g.moment g.left_since old.spare new.spare (AfterStep (Cut 0) (g.may_leave old.spare)) → Throughout g (disks old) (disks new) (ShowsEither shown other)
    emptying counts_now tell run =
        let file = beside.front ++ 0 ∷ [] in
        let P = FrontsShow old.in_second file shown other in
        let at = subst (λ (b : Bool). disks new ≡ placed b old.live.device new.spare) same_place
        (ap (λ (h : Half D g). placed new.in_second h.device new.spare) same_live) in
        once g counts_now (disks old) (disks new) (ShowsEither shown other)
        (subst (λ (d : D × D). Moves g (disks old) d (ShowsEither shown other)) (sym at)
        (moves_spare g old.in_second old.live.device old.spare new.spare (λ c. c ≡ file) (AfterStep (Cut 0) (g.may_leave old.spare)) (ShowsEither shown other) run
        (beside.settled.rests.durable (tell_live g old.in_second old.live.device old.spare tell))
        (λ c aside is after. either_at old.in_second c aside shown other
        (subst (λ (f : List ℕ). (image_beside old.in_second f aside ≡ Ok shown) ⊎ (image_beside old.in_second f aside ≡ Ok other)) (sym is)
        (whole_front old.in_second file aside shown other
        (outcome g.seen g.tells_crashes g.may_leave old.spare P P (Cut 0) beside.stands (tell_spare g old.in_second old.live.device old.spare tell)
        (λ d e fronts cut. cut_front old.in_second file shown other 0 d e fronts cut) aside after))))))

  -- the half in use is mended
  module _ (not_beside : old.is_torn ≡ false) (same_spare : new.spare ≡ old.spare) where
    in_use : IsTornInUse old shown other
    in_use = torn_there old shown other torn not_beside

    rests : RestsAs g.seen g.tells_crashes g.may_leave new.spare in_use.beside
    rests = subst (λ (d : D). RestsAs g.seen g.tells_crashes g.may_leave d in_use.beside) (sym same_spare) in_use.rests

    pub mended : ((front entry : List ℕ) (entries : List Entry) → IsUnsettled g.seen g.tells_crashes g.may_leave old.live front entries entry
        → IsSettled g.seen g.tells_crashes g.may_leave new.live front entries) → Holds new shown
    mended settles =
        holds new in_use.front in_use.entries in_use.beside shown (settles in_use.front in_use.entry in_use.entries in_use.unsettled) rests
        (leads_on old.in_second new.in_second old.generation new.generation (in_use.front ++ 0 ∷ []) in_use.beside shown same_place same_number in_use.leads)

    pub not_mended : (new.live.is_torn ≡ true) × (new.is_torn ≡ false)
        → ((front entry : List ℕ) (entries : List Entry) → IsUnsettled g.seen g.tells_crashes g.may_leave old.live front entries entry
        → IsUnsettled g.seen g.tells_crashes g.may_leave new.live front entries entry) → MayShow new shown other
    not_mended due unsettled =
        torn_in_use new in_use.front in_use.entries in_use.entry in_use.beside shown other due (unsettled in_use.front in_use.entry in_use.entries in_use.unsettled) rests
        (leads_on old.in_second new.in_second old.generation new.generation (in_use.front ++ 0 ∷ []) in_use.beside shown same_place same_number in_use.leads)
        (leads_on old.in_second new.in_second old.generation new.generation (in_use.front ++ 1 ∷ in_use.entry) in_use.beside other same_place same_number in_use.after)

-- the half in use is mended: what a crash leaves meanwhile
module _ {D : Type 0} {g : Ghosts D} (old : Store D g) (shown other : Image) (in_use : IsTornInUse old shown other) where
  pub mending : (next : D) → ((disk : D) (t : ℕ) (c : List ℕ) → t ≤ g.moment disk → g.may_leave disk c → g.left_since disk t c) → Tell g (disks old)
      → ((front entry beside : List ℕ) (entries : List Entry) → IsUnsettled g.seen g.tells_crashes g.may_leave old.live front entries entry
      → IsTrue (g.tells_crashes old.live.device)
      → LeavesOnly g.moment g.left_since old.live.device next (HasEitherImage beside (front ++ 0 ∷ []) (front ++ 1 ∷ entry)))
      → Throughout g (disks old) (placed old.in_second next old.spare) (ShowsEither shown other)
  mending next counts_now tell run =
      let before = in_use.front ++ 0 ∷ [] in
      let after = in_use.front ++ 1 ∷ in_use.entry in
      once g counts_now (disks old) (placed old.in_second next old.spare) (ShowsEither shown other)
      (moves_live g old.in_second old.live.device next old.spare (HasEitherImage in_use.beside before after) (λ c. c ≡ in_use.beside) (ShowsEither shown other)
      (run in_use.front in_use.entry in_use.beside in_use.entries in_use.unsettled (tell_live g old.in_second old.live.device old.spare tell))
      (in_use.rests.durable (tell_spare g old.in_second old.live.device old.spare tell))
      (λ file aside either is. either_at old.in_second file aside shown other
      (subst (λ (f : List ℕ). (image_beside old.in_second file f ≡ Ok shown) ⊎ (image_beside old.in_second file f ≡ Ok other)) (sym is)
      (of_either old.in_second before after file in_use.beside shown other either
      (led old.in_second old.generation before in_use.beside shown in_use.leads)
      (led old.in_second old.generation after in_use.beside other in_use.after)))))
