use Rattle.std.proofs.Common.{◌<◌, ℕ, List, refl, sym, ap, subst, ◌∙◌}
use Rattle.std.proofs.lemmas.Bool.{false≢true}
use Rattle.hl_base.specs.Causes.{HasCause}
use Rattle.desk_team.specs.Houses.{is_sound, mem_faultless}
use Rattle.desk_team.proofs.MemKits.{in_order, none_fails, none_given}
use Rattle.desk_team.proofs.mem_house.MemHouseHouse.worker.Goals as goal

pub returns-in-Ok-clause-hands_out : goal.returns-in-Ok-clause-hands_out
returns-in-Ok-clause-hands_out g c =
    let h = c.hand_out.ensures.hands_out in
    let C : ℕ → Type 0 = λ f. HasCause f c.hand_out.new.self.calls.faults c.hand_out.result in
    let left : List ℕ → ℕ = λ fails. mem_faultless (λ kit. is_sound kit.door) fails c.args.self.now.coming.items in
    let same = ap (λ fails. left fails.items) c.in-Ok.ensures.same in
    record {
      came = h.came;
      given = h.given;
      cause = subst C c.in-Ok.ensures.cause.same h.cause;
      sound = λ some.
          let one = h.sound (subst (λ (n : ℕ). 0 < n) (sym same) some) in
          (one.0, sym same ∙ one.1);
      order = h.order;
      back = h.back;
      bound = h.bound;
      refusals = h.refusals;
    }

pub returns-in-Err-clause-hands_out : goal.returns-in-Err-clause-hands_out
returns-in-Err-clause-hands_out g c =
    let house = c.args.self.now in
    record {
      came = refl;
      given = none_given _;
      cause = record { later = c.in-Err.ensures.cause.later; rose = c.in-Err.ensures.cause.rose; same = tt };
      sound = λ some.
          absurd (false≢true (c.in-Err.ensures.sound (none_fails (λ kit. is_sound kit.door) house.calls.fails.items house.coming.items some)));
      order = in_order house.made.items house.back.items house.order;
      back = refl;
      bound = refl;
      refusals = refl;
    }

pub returns-in-Ok-clause-sound : goal.returns-in-Ok-clause-sound
returns-in-Ok-clause-sound g c =
    let left : List ℕ → ℕ = λ fails. mem_faultless (λ kit. is_sound kit.door) fails c.args.self.now.coming.items in
    let same = ap (λ fails. left fails.items) c.in-Ok.ensures.same in
    λ some. c.hand_out.ensures.sound (subst (λ (n : ℕ). 0 < n) (sym same) some)
