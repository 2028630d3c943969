use Rattle.std.proofs.Common.{refl, sym, subst}
use Rattle.hl_base.specs.Limits.{text_limit}
use Rattle.command_words.specs.declared.task.Origin.{Origin}
use Rattle.command_line.specs.Files.{IsFile, ReadsShelf}
use Rattle.command_line.specs.Scenes.{scene, soundness}
use Rattle.command_line.proofs.Reporting.{file_reads, file_sound, input_reads, store_reads, store_sound}
use Rattle.command_line.proofs.Talking.{unasked}
use Rattle.command_line.proofs.source.read_text.Goals as goal

pub returns-in-Input-clause-reads : goal.returns-in-Input-clause-reads
returns-in-Input-clause-reads g c =
    let outside = c.args.outside.now in
    let read = c.read_input.ensures in
    let old = scene g.J.Source g.O.Sink g.E.Sink g.S.Shelf g.M.Maker outside in
    let new = scene g.J.Source g.O.Sink g.E.Sink g.S.Shelf g.M.Maker (record outside { streams = record (outside.streams) { input = c.read_input.new.input } }) in
    input_reads c.args.origin.now c.read_input.result old new c.in-Input.is read.found read.kind read.whole read.rose (refl, refl, refl) (λ name. refl)
    (record { output = refl; output_faults = refl; error = refl; error_faults = refl }) (unasked old.refusals old.last_refused)

pub returns-in-File-clause-reads : goal.returns-in-File-clause-reads
returns-in-File-clause-reads g c =
    let outside = c.args.outside.now in
    let read = c.load_file.ensures in
    let old = scene g.J.Source g.O.Sink g.E.Sink g.S.Shelf g.M.Maker outside in
    let new = scene g.J.Source g.O.Sink g.E.Sink g.S.Shelf g.M.Maker (record outside { shelf = c.load_file.new.shelf }) in
    file_reads c.args.origin.now c.load_file.result old new c.in-File.name c.in-File.is read.found read.kind read.rose
    ((refl, refl), read.disks) (λ other. read.keeps.files other tt)
    (record { output = refl; output_faults = refl; error = refl; error_faults = refl }) (unasked old.refusals old.last_refused)

pub returns-in-Store-clause-reads : goal.returns-in-Store-clause-reads
returns-in-Store-clause-reads g c =
    let outside = c.args.outside.now in
    let read = c.load_store.ensures in
    let old = scene g.J.Source g.O.Sink g.E.Sink g.S.Shelf g.M.Maker outside in
    let new = scene g.J.Source g.O.Sink g.E.Sink g.S.Shelf g.M.Maker (record outside { shelf = c.load_store.new.shelf }) in
    store_reads c.args.origin.now c.load_store.result old new c.in-Store.name c.in-Store.is read.found read.kind read.rose read.disk_rose
    (refl, refl) (read.others, read.image)
    (record { output = refl; output_faults = refl; error = refl; error_faults = refl }) (unasked old.refusals old.last_refused)

pub returns-in-Store-clause-sound : goal.returns-in-Store-clause-sound
returns-in-Store-clause-sound g c =
    store_sound c.args.origin.now c.in-Store.name c.load_store.result (soundness g.J.Source g.O.Sink g.E.Sink g.S.Shelf c.args.outside.now)
    c.in-Store.is c.load_store.ensures.sound

pub returns-in-File-clause-sound : goal.returns-in-File-clause-sound
returns-in-File-clause-sound g c =
    file_sound c.args.origin.now c.in-File.name c.load_file.result (soundness g.J.Source g.O.Sink g.E.Sink g.S.Shelf c.args.outside.now)
    c.in-File.is (λ h. (c.load_file.ensures.sound h).0)

pub returns-in-Input-clause-shelf : goal.returns-in-Input-clause-shelf
returns-in-Input-clause-shelf g c =
    let shelf = c.args.outside.now.shelf in
    subst (λ (o : Origin). ReadsShelf g.S.Shelf text_limit o shelf shelf c.read_input.result) (sym c.in-Input.is) refl

pub returns-in-File-clause-shelf : goal.returns-in-File-clause-shelf
returns-in-File-clause-shelf g c =
    subst (λ (o : Origin). ReadsShelf g.S.Shelf text_limit o c.args.outside.now.shelf c.load_file.new.shelf c.load_file.result) (sym c.in-File.is) c.load_file.ensures

pub returns-in-Store-clause-shelf : goal.returns-in-Store-clause-shelf
returns-in-Store-clause-shelf g c =
    subst (λ (o : Origin). ReadsShelf g.S.Shelf text_limit o c.args.outside.now.shelf c.load_store.new.shelf c.load_store.result) (sym c.in-Store.is)
    c.load_store.ensures.goes_on

pub returns-in-Input-clause-file : goal.returns-in-Input-clause-file
returns-in-Input-clause-file g c = λ h. absurd (subst IsFile c.in-Input.is h)

pub returns-in-Store-clause-file : goal.returns-in-Store-clause-file
returns-in-Store-clause-file g c = λ h. absurd (subst IsFile c.in-Store.is h)
