-- How a report ends that was written.
use Rattle.std.proofs.Common.{◌≡◌, ◌≢◌, ◌⊎◌, inl, inr, ℕ, List, Option, Some, None, Ok, IfSome, length, ap, sym, ◌∙◌, subst, arith}
use Rattle.hl_base.specs.Causes.{Rose}
use Rattle.refusals.specs.Errors.{write_fault_line}
use Rattle.refusals.specs.Outcomes.{Judged, outcome_of, written}
use Rattle.command_words.specs.declared.task.Origin.{Origin}
use Rattle.command_words.specs.declared.task.Origin.TheVariants as origins
use Rattle.command_words.specs.declared.task.TextTask.{TextTask}
use Rattle.command_line.specs.Answers.{IsErrorLine, IsTextStatus, Says, Wrote, WrotePrefix}
use Rattle.command_line.specs.Runs.{AnswersText, RunsText, TextSoundly}
use Rattle.command_line.specs.Scenes.{FilesStay, IsReadWhole, OtherStays, Scene, Soundness, judged_in}
use Rattle.command_line.proofs.Endings.{no_text, says_from}

-- a scene in which the outputs alone have changed
abbrev pub with_outputs : Scene → Option (List ℕ) → ℕ → Option (List ℕ) → ℕ → Scene
with_outputs s output output_faults error error_faults =
    record s { output = output; output_faults = output_faults; error = error; error_faults = error_faults }

module _ (old mid : Scene) (output : Option (List ℕ)) (output_faults : ℕ) (error : Option (List ℕ)) (faults : ℕ) where
  abbrev after : Scene
  after = with_outputs mid output output_faults error faults

  other_on : (origin : Origin) → OtherStays origin old mid → OtherStays origin old after
  other_on origins.Input h = h
  other_on (origins.File name) h = h
  other_on (origins.Store name) h = h

  files_on : (origin : Origin) → FilesStay origin old mid → FilesStay origin old after
  files_on origins.Input h = h
  files_on (origins.File name) h = h
  files_on (origins.Store name) h = h

  whole_on : (origin : Origin) → IsReadWhole origin old mid → IsReadWhole origin old after
  whole_on origins.Input h = h
  whole_on (origins.File name) h = tt
  whole_on (origins.Store name) h = tt

-- what was written is what the definition says
wrote_so : (told : Option Judged) (output : List ℕ) (old new : Option (List ℕ)) → Wrote old new output
    → IfSome told (λ t. t ≡ Ok (written output)) → IfSome told (λ t. ((outcome_of t).status ≡ 0) × Wrote old new (outcome_of t).output)
wrote_so None output old new w h = tt
wrote_so (Some t) output old new w h =
    let F : Judged → Type 0 = λ x. Wrote old new (outcome_of x).output in
    (ap (λ (x : Judged). (outcome_of x).status) h, subst F (sym h) w)

front_so : (told : Option Judged) (output : List ℕ) (old new : Option (List ℕ)) → WrotePrefix old new output
    → IfSome told (λ t. t ≡ Ok (written output)) → IfSome told (λ t. WrotePrefix old new (outcome_of t).output)
front_so None output old new w h = tt
front_so (Some t) output old new w h =
    let F : Judged → Type 0 = λ x. WrotePrefix old new (outcome_of x).output in
    subst F (sym h) w

no_other : (status n : ℕ) → (status ≡ 0) ⊎ (status ≡ 4) → status ≡ n → n ≢ 0 → n ≢ 4 → ⊥
no_other status n (inl h) e a b = a (sym e ∙ h)
no_other status n (inr h) e a b = b (sym e ∙ h)

none_text : (status : ℕ) → (status ≡ 0) ⊎ (status ≡ 4) → IsTextStatus status → ⊥
none_text status (inl h) k = no_text status 0 h (λ x. omega arith) (λ x. omega arith) (λ x. omega arith) k
none_text status (inr h) k = no_text status 4 h (λ x. omega arith) (λ x. omega arith) (λ x. omega arith) k

module _ (given : TextTask) (day status : ℕ) (output : List ℕ) (old mid : Scene) where
  -- a report was answered, and its text written
  pub finished_report : (out : Option (List ℕ)) (out_faults : ℕ) (error : Option (List ℕ)) (error_faults : ℕ) → AnswersText given day (Ok output) old mid
      → (status ≡ 0) ⊎ (status ≡ 4) → (status ≡ 0 → Wrote mid.output out output) → (status ≡ 0 → error ≡ mid.error)
      → WrotePrefix mid.output out output → (status ≡ 4 → Rose mid.output_faults out_faults)
      → (status ≡ 4 → Says status 4 write_fault_line mid.error error mid.error_faults error_faults)
      → RunsText given day status old (with_outputs mid out out_faults error error_faults)
  finished_report out out_faults error error_faults a kind wrote quiet prefix rose said =
      let told = judged_in given day old in
      let F : Option (List ℕ) → Type 0 = λ o. Wrote o out output in
      let G : Option (List ℕ) → Type 0 = λ o. WrotePrefix o out output in
      let R : ℕ → Type 0 = λ n. Rose n out_faults in
      record {
        read = λ e. no_other status 2 kind e (λ x. omega arith) (λ x. omega arith);
        done = λ e. (quiet e ∙ a.outputs.error, whole_on old mid out out_faults error error_faults given.origin a.whole, a.maker, wrote_so told output old.output out (subst F a.outputs.output (wrote e)) a.found);
        refused = λ k. absurd (none_text status kind k);
        named = λ e. absurd (no_other status 8 kind e (λ x. omega arith) (λ x. omega arith));
        read_fault = λ e. absurd (no_other status 3 kind e (λ x. omega arith) (λ x. omega arith));
        disk_fault = λ e. absurd (no_other status 5 kind e (λ x. omega arith) (λ x. omega arith));
        write_fault = λ e. inl (
          (subst R a.outputs.output_faults (rose e), says_from status 4 write_fault_line old.error mid.error error old.error_faults mid.error_faults error_faults a.outputs.error a.outputs.error_faults (said e)),
          front_so told output old.output out (subst G a.outputs.output prefix) a.found,
        );
        memory = λ e. absurd (no_other status 6 kind e (λ x. omega arith) (λ x. omega arith));
        maker = inl a.maker;
        other = other_on old mid out out_faults error error_faults given.origin a.other;
        files = files_on old mid out out_faults error error_faults given.origin a.files;
      }

  sound_by : (sound : Soundness) (judged : Option Judged) → IfSome judged (λ t. t ≡ Ok (written output)) → (sound.output (length output) → status ≡ 0)
      → IfSome judged (λ t. sound.output (length (outcome_of t).output)
      → ((line : List ℕ) → IsErrorLine given.work (outcome_of t) line → sound.error (length line)) → status ≢ 4)
  sound_by sound None found own = tt
  sound_by sound (Some t) found own = λ room lines e.
      let F : Judged → Type 0 = λ x. sound.output (length (outcome_of x).output) in
      let zero : status ≡ 0 = own (subst F found room) in
      omega (arith, zero, e)

  pub finished_soundly : (sound : Soundness) → AnswersText given day (Ok output) old mid → (status ≡ 0) ⊎ (status ≡ 4)
      → (sound.output (length output) → status ≡ 0) → TextSoundly given day status old sound
  finished_soundly sound a kind own = record {
    source = λ s e. no_other status 3 kind e (λ x. omega arith) (λ x. omega arith);
    outputs = sound_by sound (judged_in given day old) a.found own;
  }
