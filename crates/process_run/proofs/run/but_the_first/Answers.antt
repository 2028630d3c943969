use Rattle.std.proofs.Common.{◌≡◌, ◌∙◌, [], ◌∷◌, ◌++◌, drop, map, string_bytes, ap, sym, rules}
use Rattle.std.specs.Vec.Iter.{into_iter_items}
use Rattle.std.proofs.lemmas.Iterator.Adapters.{YieldsList-from_skip, YieldsList-from_vec}
use Rattle.std.proofs.lemmas.Iterator.Consumers.{YieldsList-end}
use Rattle.std.proofs.lemmas.List.{drop-map, map-id}
use Rattle.process_run.proofs.Arguments.{text_more}
use Rattle.process_run.proofs.run.but_the_first.Goals as goal

pub loop-word-preserved : goal.loop-word-preserved
loop-word-preserved c =
    let texts = c.loop-word.words.items in
    let text = c.from_string.result in
    let pushed : c.push.new.self.items ≡ texts ++ text ∷ [] = search rules in
    record {
      can = tt;
      finite = tt;
      so_far = text_more texts c.push.new.self.items c.loop-word.yielded c.in-Some.word text pushed c.loop-word.invariant.so_far c.from_string.ensures;
    }

pub returns : goal.returns
returns c =
    let all = into_iter_items c.args.args in
    let it = c.into_iter-word-iterator.result in
    let source = YieldsList-from_vec {s = it.iter} all (search rules) (search rules) in
    let yields = YieldsList-from_skip {s = it} 1 source (search rules) in
    let end = YieldsList-end yields c.loop-word.yielded c.loop-word.word-iterator c.loop-word.yielded_by c.next.result c.next.new.self c.in-None.is c.next.ensures.steps in
    c.loop-word.invariant.so_far
    ∙ ap (map string_bytes) (sym (map-id c.loop-word.yielded) ∙ end.0)
    ∙ sym (drop-map string_bytes 1 all)
