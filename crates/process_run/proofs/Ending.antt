-- The exit statuses of a process.
use Rattle.std.proofs.Common.{◌≡◌, inl, inr, ℕ, Bool, true, false, List, Option, refl, subst, sym}
use Rattle.hl_base.specs.declared.disk.Disk.{Ghosts as Disks}
use Rattle.hl_base.specs.declared.outside.Source.{Ghosts as Inputs}
use Rattle.hl_base.specs.declared.outside.Sink.{Ghosts as Outputs}
use Rattle.hl_base.specs.declared.shelf.Shelf.{Ghosts as Shelves}
use Rattle.hl_time.specs.declared.day.Day.{Day}
use Rattle.query_terms.specs.declared.making.Maker.{Ghosts as Makers}
use Rattle.shared_desk.specs.Stays.{KitTold}
use Rattle.desk_team.specs.Houses.{HouseTold}
use Rattle.command_line.specs.Answers.{Says}
use Rattle.serve_line.specs.Runs.{IsServeStatus}
use Rattle.serve_line.specs.Words.{is_serve}
use Rattle.serve_line.specs.declared.program.Site.{Site}
use Rattle.process_run.specs.Running.{RunsAs}

pub two : IsServeStatus 2
two = inl (inr (inl (inr refl)))

four : IsServeStatus 4
four = inl (inr (inr (inr (inl refl))))

pub six : IsServeStatus 6
six = inl (inr (inr (inr (inr (inr refl)))))

-- a line was written with its own status, or a write failed
pub said : (status own : ℕ) (line : List ℕ) (old new : Option (List ℕ)) (faults faults_now : ℕ) → IsServeStatus own
    → Says status own line old new faults faults_now → IsServeStatus status
said status own line old new faults faults_now is (inl h) = subst (λ (n : ℕ). IsServeStatus n) (sym h.0) is
said status own line old new faults faults_now is (inr h) = subst (λ (n : ℕ). IsServeStatus n) (sym h.0) four

module _ {J O E S D M H A K : Type 0} {j : Inputs J} {o : Outputs O} {e : Outputs E} {s : Shelves S D} {g : Disks D} {m : Makers M}
    {tell : A → KitTold K} {coming sent : K → Option (List ℕ)} {told : H → HouseTold A} where
  status_by : (words : List (List ℕ)) (day : Day) (status : ℕ) (old new : Site J O E S M H)
      → RunsAs j o e s g m tell coming sent told words day status old new → (b : Bool) → is_serve words ≡ b → IsServeStatus status
  status_by words day status old new runs true is = (runs.served is).statuses
  status_by words day status old new runs false is = inl (runs.other is).statuses

  -- the status of a run
  pub run_status : {words : List (List ℕ)} {day : Day} {status : ℕ} {old new : Site J O E S M H}
      → RunsAs j o e s g m tell coming sent told words day status old new → IsServeStatus status
  run_status {words} {day} {status} {old} {new} runs = status_by words day status old new runs (is_serve words) refl
