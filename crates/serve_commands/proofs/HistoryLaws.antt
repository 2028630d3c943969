-- What the disks of a machine tell along a legal history, and what they show at its end.
use Rattle.std.proofs.Common.{◌≡◌, inl, inr, ℕ, ◌+◌, ◌-◌, ◌^◌, ◌<◌, ◌≤◌, List, [], ◌∷◌, Option, None, Some, Result, Ok, refl, sym, ap, subst, ◌∙◌, arith}
use Rattle.hl_base.specs.Causes.{Rose}
use Rattle.hl_base.specs.declared.disk.Disk.{Ghosts as Disks}
use Rattle.text_store.specs.declared.image.Image.{Image}
use Rattle.text_store.specs.Image.{NoImage, image}
use Rattle.text_store.specs.Stores.{Leaves, Tell, disks}
use Rattle.turn_lock.specs.declared.known.Entered.{Entered}
use Rattle.desk.specs.declared.desk.Desk.{Desk}
use Rattle.desk.specs.declared.reply.Reply.{Reply}
use Rattle.desk.specs.declared.reply.Reply.TheVariants as reply
use Rattle.desk.specs.Desks.{shown_by, state_of}
use Rattle.desk.specs.Entries.{Entry}
use Rattle.desk.specs.Stands.{Stands}
use Rattle.store_text.specs.Reading.{ReadAs}
use Rattle.store_commands.specs.Asking.{ShowsAfter}
use Rattle.store_commands.proofs.StandingLaws.{after_leaves, after_reads}
use Rattle.shared_desk.specs.Histories.{IsLegal, MayBeLeft}
use Rattle.serve_commands.specs.Stores.{ShowsLast}

-- a count that rose isn't 0
pub rose_zero : (a b : ℕ) → Rose a b → Rose 0 b
rose_zero a b (inl less) = inl (omega (arith, less))
rose_zero a b (inr last) = inr last

some_none : (image : Image) → Some image ≡ None → ⊥
some_none image e = cc

-- a disk fault
abbrev fault : Reply
fault = reply.DiskFault 0 0

module _ {D : Type 0} (g : Disks D) where
  -- what two disks read as, by what they read as
  read_more : (pair : D × D) (P Q : List ℕ → List ℕ → Type 0) → ((f s : List ℕ) → P f s → Q f s) → ReadAs g pair P → ReadAs g pair Q
  read_more pair P Q from r = (r.0, r.1, r.2, r.3, from r.0 r.1 r.4)

  -- whether the disks tell of crashes stays
  pub tells_on : (opening last : Desk D g) (history : List (Entered Entry)) → IsLegal opening history last
      → (g.tells_crashes (disks last.store).0 ≡ g.tells_crashes (disks opening.store).0)
      × (g.tells_crashes (disks last.store).1 ≡ g.tells_crashes (disks opening.store).1)
  tells_on opening last [] is = (
    ap (λ (d : Desk D g). g.tells_crashes (disks d.store).0) (sym is),
    ap (λ (d : Desk D g). g.tells_crashes (disks d.store).1) (sym is),
  )
  tells_on opening last (x ∷ xs) is =
      let mid : Desk D g = is.0 in
      let keeps = is.1.serves.keeps in
      let rest = tells_on mid last xs is.2 in
      (rest.0 ∙ keeps.tells_first, rest.1 ∙ keeps.tells_second)

  module _ (opening last : Desk D g) (history : List (Entered Entry)) where
    -- the last state, or the edit that was refused since
    last_shown : (after : Option Image) (found : Option (Result Image NoImage)) → MayBeLeft opening history None after
        → ShowsAfter after fault (state_of last) found → ShowsLast opening history last found
    last_shown after found may (inl is) = inl is
    last_shown None found may (inr other) = absurd other.1
    last_shown (Some image) found (inl none) (inr other) = absurd (some_none image none)
    last_shown (Some image) found (inr (inl none)) (inr other) = absurd (some_none image none.1)
    last_shown (Some image) found (inr (inr refused)) (inr other) = inr (image, refused, other.1)

    pub last_reads : (after : Option Image) → MayBeLeft opening history None after → Stands last.store (shown_by last) after
        → ReadAs g (disks last.store) (λ f s. ShowsLast opening history last (Some (image f s)))
    last_reads after may stands =
        read_more (disks last.store) (λ f s. ShowsAfter after fault (state_of last) (Some (image f s)))
        (λ f s. ShowsLast opening history last (Some (image f s)))
        (λ f s. last_shown after (Some (image f s)) may)
        (after_reads g last.store (state_of last) fault after after (inr (inr (refl, refl))) stands)

    pub last_leaves : (after : Option Image) → MayBeLeft opening history None after → Stands last.store (shown_by last) after
        → Tell g (disks last.store) → Leaves g (disks last.store) (λ f s. ShowsLast opening history last (Some (image f s)))
    last_leaves after may stands tell = λ f s first second.
        last_shown after (Some (image f s)) may
        (after_leaves g last.store (state_of last) fault after after (inr (inr (refl, refl))) stands tell f s first second)
