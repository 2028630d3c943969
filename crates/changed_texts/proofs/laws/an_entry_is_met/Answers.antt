use Rattle.hl_base.specs.Items.{items_of}
use Rattle.std.proofs.Common.{[]}
use Rattle.changed_texts.proofs.Shapes.{pieces_read}
use Rattle.changed_texts.proofs.Standing.{met_txns_are}
use Rattle.changed_texts.proofs.laws.an_entry_is_met.Goals as goal

pub returns-clause-txns : goal.returns-clause-txns
returns-clause-txns c items n met old t u m here was becomes = met_txns_are items n met old t u m here was becomes

pub returns-clause-pieces : goal.returns-clause-pieces
returns-clause-pieces c year text items read = pieces_read year [] text (items_of text) items read
