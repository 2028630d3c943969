use Rattle.std.proofs.Common.{◌∷◌, [], Some, length, length-append, ap, subst, sym, refl, arith}
use Rattle.std.specs.Prelude.{All}
use Rattle.std.proofs.lemmas.List.Elements.{All-drop}
use Rattle.desk_team.specs.Houses.{IsNew, is_sound}
use Rattle.desk_team.proofs.MemKits.{empty, in_order, no_faultless, no_items, none_given, one_faultless, one_given}
use Rattle.desk_team.proofs.mem_house.MemHouse.hand_out.Goals as goal

pub returns-in-Some-clause-hands_out : goal.returns-in-Some-clause-hands_out
returns-in-Some-clause-hands_out g c =
    let house = c.args.self.now in
    let came = c.in-Some.ensures.items in
    record {
      came = ap (λ kits. Some kits) came;
      given = one_given house.made.items c.push_reserved.new.self.items c.of.result c.in-Some.kit c.push_reserved.ensures.items c.of.ensures;
      cause = record { later = omega arith; rose = tt; same = refl };
      sound = λ some. (refl, (one_faultless (λ kit. is_sound kit.door) house.calls.fails.items house.coming.items _ c.in-Some.kit came some).0);
      order = in_order house.made.items house.back.items house.order;
      back = refl;
      bound = refl;
      refusals = refl;
    }

pub returns-in-None-clause-hands_out : goal.returns-in-None-clause-hands_out
returns-in-None-clause-hands_out g c =
    let house = c.args.self.now in
    record {
      came = ap (λ kits. Some kits) c.in-None.ensures.items;
      given = none_given _;
      cause = record { later = c.fail.ensures.later; rose = c.fail.ensures.rose; same = tt };
      sound = λ some.
          absurd (no_faultless (λ kit. is_sound kit.door) house.calls.fails.items house.coming.items
          (no_items house.coming.items (omega (arith, c.in-None.ensures.cases.0, house.coming.ok.0))) some);
      order = in_order house.made.items house.back.items house.order;
      back = refl;
      bound = refl;
      refusals = refl;
    }

pub invariant_of-self-clause-order : goal.invariant_of-self-clause-order
invariant_of-self-clause-order g c =
    let house = c.args.self.now in
    let more = ap length c.push_reserved.ensures.items in
    let sum = length-append house.made.items (c.of.result ∷ []) in
    omega (arith, more, sum, house.order)

pub invariant_of-self-clause-fresh : goal.invariant_of-self-clause-fresh
invariant_of-self-clause-fresh g c =
    let house = c.args.self.now in
    subst (All (λ kit. IsNew kit.door (g.M.Maker.refusals kit.maker))) (sym c.pop_front.ensures.rest)
    (All-drop (λ kit. IsNew kit.door (g.M.Maker.refusals kit.maker)) 1 house.coming.items house.fresh)

pub returns-in-Some-clause-sound : goal.returns-in-Some-clause-sound
returns-in-Some-clause-sound g c =
    let house = c.args.self.now in
    λ some.
    empty c.in-Some.kit.door.fails.items
    (one_faultless (λ kit. is_sound kit.door) house.calls.fails.items house.coming.items _ c.in-Some.kit c.in-Some.ensures.items some).1
