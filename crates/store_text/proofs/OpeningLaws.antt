-- What two disks read as once a store that was opened gives them back.
use Rattle.std.proofs.Common.{◌≡◌, ℕ, max, Bool, true, false, List, [], ◌∷◌, ◌++◌, length, Some, Result, Ok, Err, refl, sym, ◌∙◌, ap, subst}
use Rattle.hl_base.specs.declared.disk.Disk.{Ghosts as Disks}
use Rattle.text_store.specs.declared.fault.StoreFault.{StoreFault}
use Rattle.text_store.specs.declared.fault.StoreFault.TheVariants as store_fault
use Rattle.text_store.specs.declared.image.Image.{Image}
use Rattle.text_store.specs.declared.store.Store.{Store}
use Rattle.text_store.specs.Files.{WhileOpened, opened_limit}
use Rattle.text_store.specs.Image.{NoImage, NotAStore, Newer, image}
use Rattle.text_store.specs.Refusals.{ImageStays, OpenRefused, Told}
use Rattle.text_store.specs.Stores.{Holds, Keeps, Leaves, Passes, Tell, Throughout, disks, fault_count, image_beside, limit_of, placed}
use Rattle.text_store.proofs.Holding.{led}
use Rattle.store_text.specs.Reading.{ReadAs, ReadsDisks}
use Rattle.store_text.specs.Refusals.{text_of, unopened}
use Rattle.store_text.specs.declared.refusal.StoreRefusal.{StoreRefusal}

abbrev pub refused : StoreRefusal → Result (List ℕ) StoreRefusal
refused r = Err r

abbrev pub told_text : List ℕ → Result (List ℕ) StoreRefusal
told_text text = Ok text

abbrev pub no_image : NoImage → Result Image NoImage
no_image none = Err none

module _ {D : Type 0} (g : Disks D) where
  -- two disks in their places read as two files in theirs
  pub placed_reads : (in_second : Bool) (live spare : D) (file beside : List ℕ) (shown : Image) → g.seen live ≡ Some file → g.seen spare ≡ Some beside
      → image_beside in_second file beside ≡ Ok shown → ReadAs g (placed in_second live spare) (λ f s. image f s ≡ Ok shown)
  placed_reads true live spare file beside shown is_file is_beside is = (beside, file, is_beside, is_file, is)
  placed_reads false live spare file beside shown is_file is_beside is = (file, beside, is_file, is_beside, is)

  -- a store that holds an image reads as it
  pub held_reads : (store : Store D g) (shown : Image) → Holds store shown → ReadAs g (disks store) (λ f s. image f s ≡ Ok shown)
  held_reads store shown held =
      placed_reads store.in_second store.live.device store.spare (held.front ++ 0 ∷ []) held.beside shown held.settled.rests.told held.rests.told
      (led store.in_second store.generation (held.front ++ 0 ∷ []) held.beside shown held.leads)

  -- what a crash leaves at the end of a run
  pub ends : (old new : D × D) (P : List ℕ → List ℕ → Type 0) → Throughout g old new P → Leaves g new P
  ends old new P run = last old run.states run.passes
    where
      last : (from : D × D) (states : List (D × D)) → Passes g from states new P → Leaves g new P
      last from [] passes = passes.1
      last from (next ∷ states) passes = last next states passes.1

  module _ (old : D × D) where
    -- the ends of a run and the bounds that hold over it, of what two disks read as
    abbrev pub Moments : D × D → Type 0
    Moments new = Told g old (λ f s. Tell g old → Throughout g old new (WhileOpened g old f s))

    abbrev pub Bounds : D × D → Type 0
    Bounds new = Told g old (λ f s. Keeps g old new (max (opened_limit f s) (length f), max (opened_limit f s) (length s)))

    pub opened_reads : (store : Store D g) (shown : Image) (back : D × D) → back ≡ disks store
        → Told g old (λ f s. (image f s ≡ Ok shown) × Holds store shown × (limit_of store ≡ opened_limit f s))
        → Moments (disks store) → Bounds (disks store) → fault_count g (disks store) ≡ fault_count g old → ReadsDisks g old back (told_text shown.text)
    opened_reads store shown back is opened moments bounds same = subst (λ (b : D × D). ReadsDisks g old b (told_text shown.text)) (sym is) (record {
      text = λ f s is_first is_second. ap text_of (opened f s is_first is_second).0;
      stays = λ f s is_first is_second.
          let o = opened f s is_first is_second in
          let r = held_reads store shown o.1 in
          (r.0, r.1, r.2, r.3, r.4 ∙ sym o.0);
      any_moment = moments;
      kind = tt;
      rose = λ e. absurd cc;
      no_fault = same;
      keeps = bounds;
    })

    -- where the disks read as they did, they have the same image
    stays_same : (new : D × D) → g.seen new.0 ≡ g.seen old.0 → g.seen new.1 ≡ g.seen old.1 → Told g old (λ first second. ReadAs g new (λ f s. image f s ≡ image first second))
    stays_same new first second f s is_first is_second = (f, s, first ∙ is_first, second ∙ is_second, refl)

    pub refused_reads : (new : D × D) (fault : StoreFault) → OpenRefused g old new fault → (fault ≡ store_fault.DiskFault → ImageStays g old new) → Moments new → Bounds new
        → ReadsDisks g old new (refused (unopened fault))
    refused_reads new store_fault.DiskFault rose stays moments bounds = record {
      text = λ f s is_first is_second. tt;
      stays = stays refl;
      any_moment = moments;
      kind = tt;
      rose = λ e. rose;
      no_fault = tt;
      keeps = bounds;
    }
    refused_reads new (store_fault.NotAStore at) cause stays moments bounds = record {
      text = λ f s is_first is_second. ap text_of (cause.0 f s is_first is_second);
      stays = stays_same new cause.1.0 cause.1.1;
      any_moment = moments;
      kind = tt;
      rose = λ e. absurd cc;
      no_fault = tt;
      keeps = bounds;
    }
    refused_reads new (store_fault.Newer version) cause stays moments bounds = record {
      text = λ f s is_first is_second. ap text_of (cause.0 f s is_first is_second);
      stays = stays_same new cause.1.0 cause.1.1;
      any_moment = moments;
      kind = tt;
      rose = λ e. absurd cc;
      no_fault = tt;
      keeps = bounds;
    }
    refused_reads new store_fault.Memory cause stays moments bounds = record {
      text = λ f s is_first is_second. tt;
      stays = stays_same new cause.0 cause.1;
      any_moment = moments;
      kind = tt;
      rose = λ e. absurd cc;
      no_fault = tt;
      keeps = bounds;
    }
    refused_reads new (store_fault.Full size limit) cause stays moments bounds = absurd cause
    refused_reads new (store_fault.Exists len) cause stays moments bounds = absurd cause
