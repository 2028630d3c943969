use Rattle.std.proofs.Common.{ap, ◌∙◌}
use Rattle.walked_edits.specs.Causes.{CanNot}
use Rattle.walked_edits.specs.Forms.{put_back}
use Rattle.walked_edits.proofs.Going.{walked_cause, walked_count, walked_in, walked_nodes}
use Rattle.walked_edits.proofs.walking.walk_all.Goals as goal

pub returns-clause-walked : goal.returns-clause-walked
returns-clause-walked g c =
    walked_in c.args.edit.now c.args.book.now.items c.go-outcome.new.book.items c.swap_back.new.book.items c.go-outcome.new.walking c.swap_back.new.forms.items c.go-outcome.result c.told.result
    c.go-outcome.ensures.put (c.go-outcome.ensures.back ∙ ap (put_back c.args.book.now.items) c.requires.none) c.go-outcome.ensures.inside c.swap_back.ensures.back c.swap_back.ensures.forth c.swap_back.ensures.spots c.told.ensures.kept c.told.ensures.forms c.told.ensures.ended

pub returns-clause-stays : goal.returns-clause-stays
returns-clause-stays g c = c.swap_back.ensures.back ∙ c.go-outcome.ensures.back ∙ ap (put_back c.args.book.now.items) c.requires.none

pub returns-clause-counted : goal.returns-clause-counted
returns-clause-counted g c =
    walked_count c.args.steps.now c.go-outcome.new.steps c.go-outcome.new.walking c.swap_back.new.forms.items c.go-outcome.result c.told.result
    c.go-outcome.ensures.counted c.swap_back.ensures.spots c.told.ensures.forms c.told.ensures.ended

pub returns-clause-few : goal.returns-clause-few
returns-clause-few g c =
    walked_nodes c.args.edit.now c.args.steps.now c.go-outcome.new.steps c.go-outcome.new.walking c.swap_back.new.forms.items c.go-outcome.result c.told.result
    c.go-outcome.ensures.few c.swap_back.ensures.spots c.told.ensures.forms c.told.ensures.ended

pub returns-clause-load : goal.returns-clause-load
returns-clause-load g c = walked_cause (CanNot c.args.edit.now) c.go-outcome.result c.told.result c.go-outcome.ensures.load c.told.ensures.fault

pub returns-clause-most : goal.returns-clause-most
returns-clause-most g c = c.go-outcome.ensures.most
