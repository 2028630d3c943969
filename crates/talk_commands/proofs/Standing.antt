-- What the disks of a store read as, and what a crash leaves of them, after a history.
use Rattle.std.proofs.Common.{◌≡◌, ◌⊎◌, inl, inr, ℕ, List, Option, None, Some, Result, Ok, ap}
use Rattle.hl_base.specs.declared.disk.Disk.{Ghosts as Disks}
use Rattle.text_store.specs.declared.image.Image.{Image}
use Rattle.text_store.specs.declared.store.Store.{Store}
use Rattle.text_store.specs.Image.{NoImage, image}
use Rattle.text_store.specs.Stores.{Leaves, Tell, disks}
use Rattle.desk.specs.Stands.{Stands}
use Rattle.desk.specs.States.{State, image_of}
use Rattle.store_text.specs.Reading.{ReadAs}
use Rattle.store_commands.proofs.StandingLaws.{may_show_reads, stands_reads}
use Rattle.talk_commands.specs.Histories.{ShowsLast}

abbrev shown_now : Result Image NoImage → Option (Result Image NoImage)
shown_now found = Some found

-- what two files show after a history
abbrev pub Last : State → Option Image → List ℕ → List ℕ → Type 0
Last last beside f s = ShowsLast last beside (Some (image f s))

module _ {D : Type 0} (g : Disks D) where
  read_more : (pair : D × D) (P Q : List ℕ → List ℕ → Type 0) → ((f s : List ℕ) → P f s → Q f s) → ReadAs g pair P → ReadAs g pair Q
  read_more pair P Q from r = (r.0, r.1, r.2, r.3, from r.0 r.1 r.4)

  module _ (store : Store D g) (last : State) where
    alone : (f s : List ℕ) → image f s ≡ Ok (image_of last) → Last last None f s
    alone f s is = inl (ap shown_now is)

    either : (other : Image) (f s : List ℕ) → (image f s ≡ Ok (image_of last)) ⊎ (image f s ≡ Ok other) → Last last (Some other) f s
    either other f s (inl is) = inl (ap shown_now is)
    either other f s (inr is) = inr (ap shown_now is)

    one_of_same : (f s : List ℕ) → (image f s ≡ Ok (image_of last)) ⊎ (image f s ≡ Ok (image_of last)) → image f s ≡ Ok (image_of last)
    one_of_same f s (inl is) = is
    one_of_same f s (inr is) = is

    pub last_reads : (beside : Option Image) → Stands store (image_of last) beside → ReadAs g (disks store) (Last last beside)
    last_reads None stands =
        read_more (disks store) (λ f s. image f s ≡ Ok (image_of last)) (Last last None) alone (stands_reads g store (image_of last) stands)
    last_reads (Some other) stands =
        read_more (disks store) (λ f s. (image f s ≡ Ok (image_of last)) ⊎ (image f s ≡ Ok other)) (Last last (Some other)) (either other)
        (may_show_reads g store (image_of last) other stands)

    pub last_leaves : (beside : Option Image) → Stands store (image_of last) beside → Tell g (disks store) → Leaves g (disks store) (Last last beside)
    last_leaves None (inl rest) tell = λ f s first second. alone f s (rest.1.shows tell f s first second)
    last_leaves None (inr may) tell = λ f s first second. alone f s (one_of_same f s (may.shows tell f s first second))
    last_leaves (Some other) stands tell = λ f s first second. either other f s (stands.shows tell f s first second)
