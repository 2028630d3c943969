use Rattle.placed_checks.proofs.Answering.{is_this}
use Rattle.placed_checks.proofs.Passing.{solved_passes}
use Rattle.placed_checks.proofs.Solved.{placed_is_solved, same_are_right}
use Rattle.placed_checks.proofs.laws.a_placed_check.Goals as goal

pub returns-clause-solves : goal.returns-clause-solves
returns-clause-solves c told others book n written solved placed unmarked passes =
    placed_is_solved told others book n written solved placed unmarked passes

pub returns-clause-passes : goal.returns-clause-passes
returns-clause-passes c told others book n written solved placed is_solved = solved_passes told others book n written solved placed is_solved

pub returns-clause-told : goal.returns-clause-told
returns-clause-told c one two place same = same_are_right one two place same

pub returns-clause-answers : goal.returns-clause-answers
returns-clause-answers c one two place n written solved answer placed is_solved fits is = is_this one two place n written solved placed is_solved fits answer is
