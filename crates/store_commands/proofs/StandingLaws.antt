-- What the disks of a store read as, and what a crash leaves of them, where it stands for an image.
use Rattle.std.proofs.Common.{◌≡◌, ◌⊎◌, inl, inr, ℕ, Bool, true, false, List, [], ◌∷◌, ◌++◌, Option, None, Some, Result, Ok, refl, ap, subst}
use Rattle.hl_base.specs.declared.disk.Disk.{Ghosts as Disks}
use Rattle.text_store.specs.declared.image.Image.{Image}
use Rattle.text_store.specs.declared.store.Store.{Store}
use Rattle.text_store.specs.Image.{NoImage, image}
use Rattle.text_store.specs.Stores.{IsTornBeside, IsTornInUse, Leaves, MayShow, Tell, disks, image_beside, placed}
use Rattle.text_store.proofs.HalfImages.{either_image}
use Rattle.text_store.proofs.Holding.{led, of_either, whole_front}
use Rattle.desk.specs.declared.reply.Reply.{Reply}
use Rattle.desk.specs.Stands.{IsPending, Stands}
use Rattle.desk.specs.States.{State, image_of}
use Rattle.desk.specs.Steps.{is_fault}
use Rattle.store_text.specs.Reading.{ReadAs}
use Rattle.store_text.proofs.OpeningLaws.{held_reads}
use Rattle.store_commands.specs.Asking.{ShowsAfter}

abbrev pub Either : Image → Image → List ℕ → List ℕ → Type 0
Either one other f s = (image f s ≡ Ok one) ⊎ (image f s ≡ Ok other)

module _ {D : Type 0} (g : Disks D) where
  placed_either : (in_second : Bool) (live spare : D) (file beside : List ℕ) (one other : Image) → g.seen live ≡ Some file → g.seen spare ≡ Some beside
      → (image_beside in_second file beside ≡ Ok one) ⊎ (image_beside in_second file beside ≡ Ok other) → ReadAs g (placed in_second live spare) (Either one other)
  placed_either true live spare file beside one other is_file is_beside is = (beside, file, is_beside, is_file, is)
  placed_either false live spare file beside one other is_file is_beside is = (file, beside, is_file, is_beside, is)

  torn_reads : (store : Store D g) (one other : Image) → IsTornInUse store one other ⊎ IsTornBeside store one other → ReadAs g (disks store) (Either one other)
  torn_reads store one other (inl t) =
      placed_either store.in_second store.live.device store.spare t.unsettled.stands.file t.beside one other t.unsettled.stands.told t.rests.told
      (of_either store.in_second (t.front ++ 0 ∷ []) (t.front ++ 1 ∷ t.entry) t.unsettled.stands.file t.beside one other
      (either_image t.front t.entries t.unsettled.is_half t.entry t.beside t.unsettled.stands.file t.unsettled.is_record t.unsettled.stands.fits)
      (led store.in_second store.generation (t.front ++ 0 ∷ []) t.beside one t.leads)
      (led store.in_second store.generation (t.front ++ 1 ∷ t.entry) t.beside other t.after))
  torn_reads store one other (inr t) =
      placed_either store.in_second store.live.device store.spare (t.front ++ 0 ∷ []) t.stands.file one other t.settled.rests.told t.stands.told
      (whole_front store.in_second (t.front ++ 0 ∷ []) t.stands.file one other t.stands.fits)

  pub may_show_reads : (store : Store D g) (one other : Image) → MayShow store one other → ReadAs g (disks store) (Either one other)
  may_show_reads store one other may = torn_reads store one other may.torn

  read_more : (pair : D × D) (P Q : List ℕ → List ℕ → Type 0) → ((f s : List ℕ) → P f s → Q f s) → ReadAs g pair P → ReadAs g pair Q
  read_more pair P Q from r = (r.0, r.1, r.2, r.3, from r.0 r.1 r.4)

  abbrev Exactly : Image → List ℕ → List ℕ → Type 0
  Exactly shown f s = image f s ≡ Ok shown

  one_of_same : (shown : Image) (f s : List ℕ) → Either shown shown f s → Exactly shown f s
  one_of_same shown f s (inl is) = is
  one_of_same shown f s (inr is) = is

  pub stands_reads : (store : Store D g) (shown : Image) → Stands store shown None → ReadAs g (disks store) (Exactly shown)
  stands_reads store shown (inl rest) = held_reads g store shown rest.1
  stands_reads store shown (inr may) = read_more (disks store) (Either shown shown) (Exactly shown) (one_of_same shown) (may_show_reads store shown shown may)

  stands_leaves : (store : Store D g) (shown : Image) → Stands store shown None → Tell g (disks store) → Leaves g (disks store) (Exactly shown)
  stands_leaves store shown (inl rest) tell = rest.1.shows tell
  stands_leaves store shown (inr may) tell = λ f s first second. one_of_same shown f s (may.shows tell f s first second)

  -- what two files show after a step
  abbrev pub After : Option Image → Reply → State → List ℕ → List ℕ → Type 0
  After next r state f s = ShowsAfter next r state (Some (image f s))

  exactly_after : (next : Option Image) (r : Reply) (state : State) (f s : List ℕ) → Exactly (image_of state) f s → After next r state f s
  exactly_after next r state f s is = inl (ap (λ (x : Result Image NoImage). Some x) is)

  either_after : (other : Image) (r : Reply) (state : State) → is_fault r ≡ true → (f s : List ℕ) → Either (image_of state) other f s → After (Some other) r state f s
  either_after other r state fault f s (inl is) = inl (ap (λ (x : Result Image NoImage). Some x) is)
  either_after other r state fault f s (inr is) = inr (fault, ap (λ (x : Result Image NoImage). Some x) is)

  module _ (store : Store D g) (state : State) (r : Reply) where
    alone : (next after : Option Image) → after ≡ None → Stands store (image_of state) after → ReadAs g (disks store) (After next r state)
    alone next after e stands =
        read_more (disks store) (Exactly (image_of state)) (After next r state) (exactly_after next r state)
        (stands_reads store (image_of state) (subst (λ (o : Option Image). Stands store (image_of state) o) e stands))

    beside : (next : Option Image) → is_fault r ≡ true → Stands store (image_of state) next → ReadAs g (disks store) (After next r state)
    beside None fault stands = alone None None refl stands
    beside (Some other) fault stands =
        read_more (disks store) (Either (image_of state) other) (After (Some other) r state) (either_after other r state fault) (may_show_reads store (image_of state) other stands)

    pub after_reads : (next after : Option Image) → IsPending None next r after → Stands store (image_of state) after → ReadAs g (disks store) (After next r state)
    after_reads next after (inl e) stands = alone next after e stands
    after_reads next after (inr (inl h)) stands = alone next after h.1 stands
    after_reads next after (inr (inr h)) stands = beside next h.0 (subst (λ (o : Option Image). Stands store (image_of state) o) h.1 stands)

    alone_left : (next after : Option Image) → after ≡ None → Stands store (image_of state) after → Tell g (disks store) → Leaves g (disks store) (After next r state)
    alone_left next after e stands tell = λ f s first second.
        exactly_after next r state f s
        (stands_leaves store (image_of state) (subst (λ (o : Option Image). Stands store (image_of state) o) e stands) tell f s first second)

    beside_left : (next : Option Image) → is_fault r ≡ true → Stands store (image_of state) next → Tell g (disks store) → Leaves g (disks store) (After next r state)
    beside_left None fault stands tell = alone_left None None refl stands tell
    beside_left (Some other) fault stands tell = λ f s first second. either_after other r state fault f s (stands.shows tell f s first second)

    pub after_leaves : (next after : Option Image) → IsPending None next r after → Stands store (image_of state) after → Tell g (disks store)
        → Leaves g (disks store) (After next r state)
    after_leaves next after (inl e) stands tell = alone_left next after e stands tell
    after_leaves next after (inr (inl h)) stands tell = alone_left next after h.1 stands tell
    after_leaves next after (inr (inr h)) stands tell = beside_left next h.0 (subst (λ (o : Option Image). Stands store (image_of state) o) h.1 stands) tell
