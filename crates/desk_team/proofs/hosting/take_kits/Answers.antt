use Rattle.std.proofs.Common.{◌≡◌, ◌<◌, ℕ, [], ◌∷◌, ◌+◌, length, refl, sym, ap, subst, ◌∙◌, length-append, arith}
use Rattle.std.specs.Prelude.{All}
use Rattle.std.proofs.lemmas.Bool.{false≢true}
use Rattle.std.proofs.lemmas.List.Elements.{All-nil, All-push}
use Rattle.hl_base.specs.Causes.{Rose}
use Rattle.shared_desk.specs.Stays.{kit_told}
use Rattle.desk_team.specs.Hostings.{FreshBy, Takes}
use Rattle.desk_team.proofs.Takings.{takes_more, takes_none, takes_stop}
use Rattle.desk_team.proofs.hosting.take_kits.Goals as goal

pub loop-taken-init : goal.loop-taken-init
loop-taken-init g c =
    let fresh = FreshBy (kit_told g.H.Door.Door g.H.Clock.Clock g.H.Maker.Maker) in
    let house = g.H.House.told c.args.house.now in
    let none = c.requires.none in
    record {
      takes = subst (λ kits. Takes house house kits) (sym none) (takes_none house);
      many = ap length none;
      faults = refl;
      fresh = subst (λ kits. All fresh kits) (sym none) (All-nil fresh);
      room = refl;
      sound = λ most. (omega arith, subst (All (λ kit. g.H.Door.Door.IsSound kit.door)) (sym none) (All-nil (λ kit. g.H.Door.Door.IsSound kit.door)));
    }

pub push_reserved-requires : goal.push_reserved-requires
push_reserved-requires g c =
    let kept = c.loop-taken.invariant in
    omega (arith, kept.many, kept.room, c.requires.room, c.loop-taken.kits.ok.0)

pub loop-taken-preserved : goal.loop-taken-preserved
loop-taken-preserved g c =
    let fresh = FreshBy (kit_told g.H.Door.Door g.H.Clock.Clock g.H.Maker.Maker) in
    let kept = c.loop-taken.invariant in
    let one = c.in-Ok.ensures in
    let pushed = c.push_reserved.ensures.items in
    let old = g.H.House.told c.args.house.now in
    let mid = g.H.House.told c.loop-taken.house in
    let new = g.H.House.told c.worker.new.self in
    record {
      takes = takes_more old mid new c.loop-taken.kits.items c.push_reserved.new.self.items c.in-Ok.kit kept.takes one.hands_out pushed;
      many = ap length pushed ∙ length-append c.loop-taken.kits.items (c.in-Ok.kit ∷ []) ∙ ap (λ (n : ℕ). n + 1) kept.many;
      faults = one.hands_out.cause.same ∙ kept.faults;
      fresh = subst (λ kits. All fresh kits) (sym pushed) (All-push fresh c.loop-taken.kits.items c.in-Ok.kit kept.fresh one.fresh);
      room = c.push_reserved.ensures.capacity ∙ kept.room;
      sound = λ most.
          let so = kept.sound most in
          let some : 0 < mid.faultless = omega (arith, so.0, most) in
          let left = (one.hands_out.sound some).1 in (
            omega (arith, so.0, left),
            subst (All (λ kit. g.H.Door.Door.IsSound kit.door)) (sym pushed)
                (All-push (λ kit. g.H.Door.Door.IsSound kit.door) c.loop-taken.kits.items c.in-Ok.kit so.1 (one.sound some)),
          );
    }

pub returns-in-Err : goal.returns-in-Err
returns-in-Err g c =
    let kept = c.loop-taken.invariant in
    let one = c.in-Err.ensures in
    let old = g.H.House.told c.args.house.now in
    let mid = g.H.House.told c.loop-taken.house in
    let new = g.H.House.told c.worker.new.self in
    record {
      takes = takes_stop old mid new c.loop-taken.kits.items _ kept.takes one.hands_out;
      fresh = kept.fresh;
      whole = (omega (arith, kept.many), subst (λ n. Rose n new.faults) kept.faults one.hands_out.cause.rose);
      sound = λ most.
          let some : 0 < mid.faultless = omega (arith, (kept.sound most).0, most) in
          absurd (false≢true (one.hands_out.sound some).0);
    }

pub returns : goal.returns
returns g c =
    let kept = c.loop-taken.invariant in
    let all : c.loop-taken._taken ≡ c.args.count = omega arith in
    record { takes = kept.takes; fresh = kept.fresh; whole = (kept.many ∙ all, kept.faults); sound = λ most. (refl, (kept.sound most).1) }
