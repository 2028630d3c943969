use Rattle.std.proofs.Common.{◌≡◌, ◌<◌, ◌-◌, ◌^◌, Some, Bool, true, Result, Ok, Err, IfOk, length, length-drop, drop, arith, rules}
use Rattle.std.proofs.lemmas.List.{take_all}
use Rattle.hl_base.specs.declared.fault.Memory.{Memory}
use Rattle.text_store.specs.Contents.{IsStateAt}
use Rattle.text_store.specs.Currents.{current_in_code}
use Rattle.text_store.proofs.Splicing.{imports}
use Rattle.text_store.proofs.Walking.{mark_writable}
use Rattle.text_store.proofs.folding.import_in.Goals as goal

pub returns-clause-changed : goal.returns-clause-changed
returns-clause-changed c =
    let payload = c.args.payload.now in
    let state_there : IsStateAt payload 0 (Some (c.in-Some.state, c.in-Some.behind)) = search rules in
    let few : length c.put.new.self.states.items < 2 ^ 32 = omega (arith, c.if-len.false, c.len.ensures) in
    imports (current_in_code c.args.content.now) payload c.in-Some.state (drop c.in-Some.behind payload) _ c.put.new.self.states.items c.splice_in.new.text c.splice_in.result
    state_there.0 (take_all (length payload - c.in-Some.behind) (drop c.in-Some.behind payload) (omega (arith, length-drop c.in-Some.behind payload))) c.in_ok-put.ensures few c.splice_in.ensures

pub returns-clause-writable : goal.returns-clause-writable
returns-clause-writable c = if_good c.splice_in.result (λ writable.
    let payload = c.args.payload.now in
    let state_there : IsStateAt payload 0 (Some (c.in-Some.state, c.in-Some.behind)) = search rules in
    let few : length c.put.new.self.states.items < 2 ^ 32 = omega (arith, c.if-len.false, c.len.ensures) in
    mark_writable c.in-Some.state c.args.content.now.latest.states.items c.put.new.self.states.items c.in_ok-put.ensures state_there.2 few writable)
  where
    if_good : {X : Type 0} (r : Result Bool Memory) → X → IfOk r (λ good. good ≡ true → X)
    if_good (Ok good) x = λ is. x
    if_good (Err e) x = tt
