use Rattle.loaded_texts.proofs.loaded.given_back.Goals as goal

pub returns : goal.returns
returns c = λ i. record c.args.loaded.now { items = c.from_vec.ensures i; book = record { txns = c.from_vec-2.ensures i } }
