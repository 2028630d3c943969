-- A content whose text is in pieces.
use Rattle.text_store.specs.declared.folding.Current.{Current}
use Rattle.text_store.specs.Image.{Content}

abbrev pub current_in_code : Current → Content
current_in_code content = record { text = content.text; latest = content.latest.states.items }
