use Rattle.std.proofs.Common.{◌≡◌, ◌++◌, length, List, sym, ap, ◌∙◌, rules}
use Rattle.std.specs.Option.{option_to_list}
use Rattle.std.proofs.lemmas.List.{nil_from_length}
use Rattle.balancing.specs.declared.written.Written.{Written}
use Rattle.balancing.specs.Back.{txns_back, causes_back}
use Rattle.balancing.proofs.Back.{txns_push, causes_push}
use Rattle.balancing.proofs.written.put_back.Goals as goal

pub loop-written-preserved : goal.loop-written-preserved
loop-written-preserved c =
    let left = c.pop.new.self.items in
    let w = c.in-Some.written in
    let ts = c.loop-written.txns.items in
    let cs = c.loop-written.causes.items in
    let split = c.pop.ensures.items ∙ ap (λ o. left ++ option_to_list o) c.in-Some.is in
    record {
      txns = ap (txns_back left) c.put_written.ensures.txns ∙ sym (txns_push left w ts) ∙ ap (λ (ws : List Written). txns_back ws ts) (sym split) ∙ c.loop-written.invariant.txns;
      causes = ap (causes_back left) c.put_written.ensures.causes ∙ sym (causes_push left w cs) ∙ ap (λ (ws : List Written). causes_back ws cs) (sym split) ∙ c.loop-written.invariant.causes;
    }

pub returns-clause-txns : goal.returns-clause-txns
returns-clause-txns c =
    let none : length c.loop-written.kept.items ≡ 0 = search rules in
    ap (λ (ws : List Written). txns_back ws c.loop-written.txns.items) (sym (nil_from_length c.loop-written.kept.items none)) ∙ c.loop-written.invariant.txns

pub returns-clause-causes : goal.returns-clause-causes
returns-clause-causes c =
    let none : length c.loop-written.kept.items ≡ 0 = search rules in
    ap (λ (ws : List Written). causes_back ws c.loop-written.causes.items) (sym (nil_from_length c.loop-written.kept.items none)) ∙ c.loop-written.invariant.causes
