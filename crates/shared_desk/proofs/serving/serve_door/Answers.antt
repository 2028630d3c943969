use Rattle.std.proofs.Common.{◌≡◌, ℕ, ◌<◌, true, false, rules, sym, subst, ◌∙◌, arith}
use Rattle.std.proofs.lemmas.Bool.{false≢true}
use Rattle.shared_desk.specs.Stays.{ServesDoor, kit_told, runs_of}
use Rattle.shared_desk.specs.declared.serving.DoorEnd.{DoorEnd}
use Rattle.shared_desk.specs.declared.serving.DoorEnd.TheVariants as door_end
use Rattle.shared_desk.proofs.Passes.{free_still}
use Rattle.shared_desk.proofs.Visits.{serves_none, serves_on, serves_stop}
use Rattle.shared_desk.proofs.serving.serve_door.Goals as goal

pub links-init : goal.links-init
links-init g c =
    let link = g.R.Link.Link in
    record {
      free = c.requires;
      served = serves_none link.coming link.sent c.args.page.now (kit_told g.R.Door g.C.Clock g.M.Maker c.args.kit.now) c.args.pass.now;
      sound = λ sound. sound;
    }

pub returns-then-not-goes_on-clause-served : goal.returns-then-not-goes_on-clause-served
returns-then-not-goes_on-clause-served g c =
    let link = g.R.Link.Link in
    let less : c.links._served < c.args.limit = omega arith in
    let no : c.goes_on.result ≡ false = search rules in
    serves_stop link.coming link.sent c.args.page.now c.links._served c.args.limit c.serve_next-end.result _ _ _ c.args.pass.now c.links.pass c.serve_next-end.new.pass
    less (λ is. false≢true (sym no ∙ c.goes_on.ensures.1 is)) c.links.invariant.served c.serve_next-end.ensures.served

pub returns-then-not-goes_on-clause-sound : goal.returns-then-not-goes_on-clause-sound
returns-then-not-goes_on-clause-sound g c = λ sound. c.serve_next-end.ensures.sound (c.links.invariant.sound sound)

pub links-preserved : goal.links-preserved
links-preserved g c =
    let link = g.R.Link.Link in
    let kit = kit_told g.R.Door g.C.Clock g.M.Maker in
    let yes : c.goes_on.result ≡ true = search rules in
    let E : DoorEnd → Type 0 = λ end. ServesDoor link.coming link.sent c.args.page.now 1 end (kit c.links.kit) (kit c.serve_next-end.new.kit) c.links.pass c.serve_next-end.new.pass in
    let one = c.serve_next-end.ensures.served in
    record {
      free = free_still c.args.turn.now c.links.pass c.serve_next-end.new.pass (runs_of one.stays) c.links.invariant.free one.grown;
      served = serves_on link.coming link.sent c.args.page.now c.links._served (kit c.args.kit.now) (kit c.links.kit) (kit c.serve_next-end.new.kit)
          c.args.pass.now c.links.pass c.serve_next-end.new.pass c.links.invariant.served (subst E (c.goes_on.ensures.0 yes) one);
      sound = λ sound. (c.serve_next-end.ensures.sound (c.links.invariant.sound sound)).1;
    }

pub returns-clause-served : goal.returns-clause-served
returns-clause-served g c =
    let link = g.R.Link.Link in
    let kit = kit_told g.R.Door g.C.Clock g.M.Maker in
    let all : c.links._served ≡ c.args.limit = omega arith in
    let S : ℕ → Type 0 = λ n. ServesDoor link.coming link.sent c.args.page.now n door_end.Enough (kit c.args.kit.now) (kit c.links.kit) c.args.pass.now c.links.pass in
    subst S all c.links.invariant.served

pub returns-clause-sound : goal.returns-clause-sound
returns-clause-sound g c = λ sound. (λ is. absurd (cc (is)), c.links.invariant.sound sound)
