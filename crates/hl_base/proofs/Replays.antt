-- How the calls of a record are done again.
use Rattle.std.proofs.Common.{◌≡◌, ℕ, ◌+◌, ◌-◌, ◌<◌, ◌≤◌, min, List, [], ◌∷◌, length, take, drop, get_or, refl, sym, ◌∙◌, ap, subst, arith, length-drop, Result, Ok, Err, OnOk}
use Rattle.std.proofs.lemmas.List.{drop_more, take_min}
use Rattle.std.proofs.Math.Nat.{min_comm}
use Rattle.std.proofs.lemmas.Bool.Decides.{nat_tests}
use Rattle.hl_base.specs.declared.disk_record.Call.{Call}
use Rattle.hl_base.specs.declared.disk_record.Call.TheVariants.{Still as NoChange, Write, Cut as CutTo, Sync as SyncNow}
use Rattle.hl_base.specs.Disk.{overwritten}
use Rattle.hl_base.specs.Calls.{piece_len, step_of, written, history}
use Rattle.hl_base.specs.History.{Step, content, stepped, stepped_front, front_of, at_crash, stopped_text}
use Rattle.hl_base.proofs.CallRecords.{length-history, drop-history}

-- some calls of a record are done again, and these are left with their bytes
pub record IsReplayedTo (first : List ℕ) (steps : List Step) (rest : List Call) (pieces text : List ℕ) (count : ℕ) : Type 0 where
  pub done : List Step
  pub counted : length done ≡ count
  pub whole : history done rest pieces ≡ steps
  pub total : written rest ≡ length pieces
  pub reads : content first done ≡ text

pub one_more : (first : List ℕ) (steps : List Step) (call : Call) (rest : List Call) (pieces text : List ℕ) (count : ℕ) → IsReplayedTo first steps (call ∷ rest) pieces text count
    → IsReplayedTo first steps rest (drop (piece_len call) pieces) (stepped text (step_of call (take (piece_len call) pieces))) (count + 1)
one_more first steps call rest pieces text count so_far =
    let step = step_of call (take (piece_len call) pieces) in
    record {
      done = step ∷ so_far.done;
      counted = omega (arith, so_far.counted);
      whole = so_far.whole;
      total = omega (arith, so_far.total, length-drop (piece_len call) pieces);
      reads = ap (λ (file : List ℕ). stepped file step) so_far.reads;
    }

pub stops_here : (first : List ℕ) (steps : List Step) (call : Call) (rest : List Call) (pieces text : List ℕ) (count number bytes : ℕ) → IsReplayedTo first steps (call ∷ rest) pieces text count
    → number ≡ count + 1 → stopped_text first steps number bytes ≡ stepped_front text (front_of (step_of call (take (piece_len call) pieces)) bytes)
stops_here first steps call rest pieces text count number bytes so_far is =
    let step = step_of call (take (piece_len call) pieces) in
    let newest = step ∷ so_far.done in
    let behind = drop (piece_len call) pieces in
    let long : length steps ≡ count + 1 + length rest = omega (arith, ap length so_far.whole, length-history newest rest behind, so_far.counted) in
    let left : length steps - number ≡ length rest = omega (arith, long) in
    let tail : drop (length steps - number) steps ≡ newest =
    ap (λ (n : ℕ). drop n steps) left ∙ ap (λ (l : List Step). drop (length rest) l) (sym so_far.whole) ∙ drop-history newest rest behind in
    let inside : number ≤ length steps = omega (arith, long) in
    let chosen : stopped_text first steps number bytes ≡ at_crash first (drop (length steps - number) steps) bytes = grind (arith, nat_tests) in
    chosen ∙ ap (λ (l : List Step). at_crash first l bytes) tail ∙ ap (λ (file : List ℕ). stepped_front file (front_of step bytes)) so_far.reads

pub past_all : (first : List ℕ) (steps : List Step) (pieces text : List ℕ) (count number bytes : ℕ) → IsReplayedTo first steps [] pieces text count → count < number
    → stopped_text first steps number bytes ≡ text
past_all first steps pieces text count number bytes so_far past =
    let long : length steps ≡ count = omega (arith, ap length so_far.whole, so_far.counted) in
    let outside : length steps < number = omega arith in
    let chosen : stopped_text first steps number bytes ≡ content first steps = grind (arith, nat_tests) in
    chosen ∙ ap (λ (l : List Step). content first l) (sym so_far.whole) ∙ so_far.reads

-- a front of a call's bytes, counted in either way
front_same : (text piece : List ℕ) (call : Call) (bytes : ℕ) → stepped_front text (step_of call (take (min (length piece) bytes) piece)) ≡ stepped_front text (front_of (step_of call piece) bytes)
front_same text piece (Write at len) bytes = ap (λ (l : List ℕ). overwritten text at l) (ap (λ (n : ℕ). take n piece) (min_comm (length piece) bytes) ∙ take_min bytes piece)
front_same text piece NoChange bytes = refl
front_same text piece (CutTo len) bytes = refl
front_same text piece SyncNow bytes = refl

pub stop_equals : (first pieces rest text front : List ℕ) (calls : List Call) (i number bytes len : ℕ) (d : Call) → IsReplayedTo first (history [] calls pieces) (drop i calls) rest text i
    → i < length calls → number ≡ i + 1 → len ≡ piece_len (get_or calls i d) → front ≡ take (min (length (take len rest)) bytes) (take len rest)
    → stepped_front text (step_of (get_or calls i d) front) ≡ stopped_text first (history [] calls pieces) number bytes
stop_equals first pieces rest text front calls i number bytes len d so_far inside is size front_is =
    let call = get_or calls i d in
    let steps = history [] calls pieces in
    let here : IsReplayedTo first steps (call ∷ drop (i + 1) calls) rest text i = subst (λ (l : List Call). IsReplayedTo first steps l rest text i) (drop_more calls i d inside) so_far in
    ap (λ (l : List ℕ). stepped_front text (step_of call l)) (front_is ∙ ap (λ (n : ℕ). take (min (length (take n rest)) bytes) (take n rest)) size)
    ∙ front_same text (take (piece_len call) rest) call bytes
    ∙ sym (stops_here first steps call (drop (i + 1) calls) rest text i number bytes here is)

pub on_ok_map : {T E P Q : Type 0} → (r : Result T E) → (P → Q) → OnOk r P → OnOk r Q
on_ok_map (Ok x) f p = f p
on_ok_map (Err e) f p = p
