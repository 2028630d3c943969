-- What is said of a run of the program.
use Rattle.std.specs.Prelude.{◌≡◌, ℕ, true, false, List, Option}
use Rattle.hl_base.specs.declared.disk.Disk.{Ghosts as Disks}
use Rattle.hl_base.specs.declared.outside.Source.{Ghosts as Inputs}
use Rattle.hl_base.specs.declared.outside.Sink.{Ghosts as Outputs}
use Rattle.hl_base.specs.declared.shelf.Shelf.{Ghosts as Shelves}
use Rattle.hl_time.specs.declared.day.Day.{Day}
use Rattle.query_terms.specs.declared.making.Maker.{Ghosts as Makers}
use Rattle.shared_desk.specs.Stays.{KitTold}
use Rattle.desk_team.specs.Houses.{HouseTold}
use Rattle.serve_line.specs.Runs.{RunsOther, RunsServe}
use Rattle.serve_line.specs.Words.{is_serve, serve_read}
use Rattle.serve_line.specs.declared.program.Site.{Site}

-- The words were run on this day, and this was the status: those of `serve`, or others.
pub record RunsAs {J O E S D M H A K : Type 0} (j : Inputs J) (o : Outputs O) (e : Outputs E) (s : Shelves S D) (g : Disks D) (m : Makers M)
    (tell : A → KitTold K) (coming sent : K → Option (List ℕ)) (told : H → HouseTold A) (words : List (List ℕ)) (day : Day) (status : ℕ)
    (old new : Site J O E S M H) : Type 0 where
  pub served : is_serve words ≡ true → RunsServe o e s g tell coming sent told (serve_read old.page words) status old new
  pub other : is_serve words ≡ false → RunsOther j o e s g m words day status old new
