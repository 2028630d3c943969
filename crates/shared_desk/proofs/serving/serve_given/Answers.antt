use Rattle.std.proofs.Common.{ℕ, refl, sym, subst, ◌∙◌}
use Rattle.web_desk.specs.Counts.{Counted}
use Rattle.shared_desk.proofs.Visits.{not_failed, spent_is}
use Rattle.shared_desk.proofs.serving.serve_given.Goals as goal

pub returns-clause-served : goal.returns-clause-served
returns-clause-served g c =
    let link = g.R.Link.Link in
    let one = c.serve_connection-end in
    let after = one.new.link in
    let end = one.result in
    let s = one.ensures.served in
    let reads = link.read_faults after in
    let writes = link.write_faults after in
    record {
      stay = record {
        link = c.args.link;
        back = record { left = link.coming after; sent = link.sent after; read_faults = reads; write_faults = writes };
        end = end;
        run = s.0;
      };
      given = refl;
      served = record {
        served = s.3;
        counted = subst (λ (n : ℕ). Counted end n reads 0 writes) c.requires.fresh.0
            (subst (λ (n : ℕ). Counted end (link.read_faults c.args.link) reads n writes) c.requires.fresh.1 one.ensures.counted);
        sound = one.ensures.sound;
      };
      back = c.give_back.ensures.given;
      coming_stays = c.give_back.ensures.coming;
      faults = c.give_back.ensures.faults;
      grown = s.1;
      asked = s.2;
      day = one.ensures.always;
      goes = c.after_end.ensures;
      full = λ h. one.ensures.spent (spent_is end (sym c.after_end.ensures ∙ h));
    }

pub returns-clause-sound : goal.returns-clause-sound
returns-clause-sound g c = λ sound. (λ is. not_failed c.serve_connection-end.result (sym c.after_end.ensures ∙ is), c.give_back.ensures.sound sound)
