use Rattle.text_store.specs.Found.{half_in_code}
use Rattle.text_store.proofs.Choosing.{found_first, found_second, first_image, second_image, refused_as}
use Rattle.text_store.proofs.finding.read_image.Goals as goal

pub read_half-requires : goal.read_half-requires
read_half-requires c = (c.in-First.ensures c.args.first.now c.args.second.now c.in_ok-first_half.ensures c.in_ok-second_half.ensures).0

pub read_half-requires-in-Second : goal.read_half-requires-in-Second
read_half-requires-in-Second c = (c.in-Second.ensures c.args.first.now c.args.second.now c.in_ok-first_half.ensures c.in_ok-second_half.ensures).0

pub returns-in-First-clause-found : goal.returns-in-First-clause-found
returns-in-First-clause-found c =
    let is = c.in-First.ensures c.args.first.now c.args.second.now c.in_ok-first_half.ensures c.in_ok-second_half.ensures in
    found_first c.args.first.now c.args.second.now c.in-First.half.generation c.read_half.result is.1 c.read_half.ensures.found

pub returns-in-First-clause-refused : goal.returns-in-First-clause-refused
returns-in-First-clause-refused c =
    let is = c.in-First.ensures c.args.first.now c.args.second.now c.in_ok-first_half.ensures c.in_ok-second_half.ensures in
    refused_as c.args.first.now c.args.second.now (half_in_code c.args.first.now c.in-First.half) c.read_half.result
    (first_image c.args.first.now c.args.second.now c.in-First.half is) c.read_half.ensures.refused

pub returns-in-Second-clause-found : goal.returns-in-Second-clause-found
returns-in-Second-clause-found c =
    let is = c.in-Second.ensures c.args.first.now c.args.second.now c.in_ok-first_half.ensures c.in_ok-second_half.ensures in
    found_second c.args.first.now c.args.second.now c.in-Second.half.generation c.read_half-in-Second.result is.1 c.read_half-in-Second.ensures.found

pub returns-in-Second-clause-refused : goal.returns-in-Second-clause-refused
returns-in-Second-clause-refused c =
    let is = c.in-Second.ensures c.args.first.now c.args.second.now c.in_ok-first_half.ensures c.in_ok-second_half.ensures in
    refused_as c.args.first.now c.args.second.now (half_in_code c.args.second.now c.in-Second.half) c.read_half-in-Second.result
    (second_image c.args.first.now c.args.second.now c.in-Second.half is) c.read_half-in-Second.ensures.refused
