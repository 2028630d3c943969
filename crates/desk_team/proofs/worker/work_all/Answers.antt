use Rattle.std.proofs.Common.{◌≡◌, length, ap, subst, ◌∙◌, arith}
use Rattle.std.proofs.lemmas.List.{with_items_is}
use Rattle.desk_team.specs.Teams.{AllWorked}
use Rattle.desk_team.proofs.Joining.{worked-free}
use Rattle.desk_team.proofs.worker.work_all.Goals as goal

pub returns : goal.returns
returns g c =
    let link = g.R.Link.Link in
    let old = c.args.workers.now in
    let news = c.work_each.new.workers in
    let long = c.work_each.auto.workers ∙ c.as_mut_slice.ensures.len in
    let is = with_items_is old news long in
    let many : length news ≡ length old.items = omega (arith, long, old.ok.0) in
    let worked = subst (λ items. AllWorked g.R.Door g.C.Clock g.M.Maker link.coming link.sent c.args.page.now c.args.limit items news) c.as_mut_slice.ensures.value c.work_each.ensures in
    record {
      worked = rw is worked;
      many = ap length is ∙ many;
      free = rw is (worked-free g.R.Door g.C.Clock g.M.Maker link.coming link.sent c.args.page.now c.args.limit c.args.turn.now old.items news many worked c.requires);
    }
