use Rattle.std.proofs.Common.{◌≡◌, sym, subst, ◌∙◌}
use Rattle.std.proofs.lemmas.Result.{err_from_is_err_and}
use Rattle.loaded_texts.specs.Keeping.{IsLoaded}
use Rattle.live_journal.specs.Loading.{fault_of}
use Rattle.live_journal.proofs.Trying.{sound}
use Rattle.live_journal.proofs.Verdicts.{as_told}
use Rattle.live_journal.proofs.editing.loaded_anew.Goals as goal

pub returns-in_err-loaded : goal.returns-in_err-loaded
returns-in_err-loaded g c =
    let p = err_from_is_err_and c.from_residual.result c.from_residual.ensures.1 in
    let e = c.args.editing.now in
    rw (p.1, p.2)
    (record {
      made = tt;
      loads = tt;
      few = tt;
      fault = as_told c.in_err-loaded.field-0.0 (fault_of e.year e.new.now) c.in_err-loaded.ensures.fault;
      counts = record { read = c.load_text.ensures.bound; others = c.load_text.ensures.others };
    })

pub returns-in_err-boxed : goal.returns-in_err-boxed
returns-in_err-boxed g c =
    let p = err_from_is_err_and c.from_residual-in_err-boxed.result c.from_residual-in_err-boxed.ensures.1 in
    rw (p.1, p.2)
    (record {
      made = tt;
      loads = tt;
      few = tt;
      fault = tt;
      counts = record { read = c.load_text.ensures.bound; others = c.load_text.ensures.others };
    })

pub returns : goal.returns
returns g c =
    let e = c.args.editing.now in
    let loaded = c.in_ok-loaded.ensures.loaded in
    record {
      made = subst (IsLoaded e.year e.new.now) (sym c.in_ok-boxed.ensures) loaded;
      loads = sound e.year e.new.now c.in_ok-loaded.loaded loaded;
      few = loaded.few_bytes;
      fault = tt;
      counts = record { read = c.load_text.ensures.bound; others = c.load_text.ensures.others };
    }
