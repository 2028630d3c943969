-- What the lines of a file of rules say together.
use Rattle.std.specs.Prelude.{ℕ, true, false, List, [], ◌∷◌, ◌++◌, Option, Some, None}
use Rattle.hl_base.specs.Ascii.{comma}
use Rattle.csv_rules.specs.Columns.{columns_from}
use Rattle.csv_rules.specs.declared.drafts.Draft.{Draft}
use Rattle.csv_rules.specs.declared.forms.Form.{Form}
use Rattle.csv_rules.specs.declared.forms.Form.TheVariants as forms
use Rattle.csv_rules.specs.declared.forms.Setting.{Setting}
use Rattle.csv_rules.specs.declared.forms.Setting.TheVariants as set
use Rattle.csv_rules.specs.declared.forms.Stage.{Stage}
use Rattle.csv_rules.specs.declared.forms.Stage.TheVariants as stages
use Rattle.csv_rules.specs.declared.kinds.Action.{Action}
use Rattle.csv_rules.specs.declared.kinds.Assignment.{Assignment}
use Rattle.csv_rules.specs.declared.kinds.Block.{Block}
use Rattle.csv_rules.specs.declared.kinds.Condition.{Condition}
use Rattle.csv_rules.specs.declared.kinds.DatePart.{DatePart}
use Rattle.csv_rules.specs.declared.kinds.Settings.{Settings}
use Rattle.csv_rules.specs.declared.kinds.Sheet.{Sheet}

-- What some lines say: the parts of a sheet, those of the block that is open, and where the next line stands.
pub record Progress : Type 0 where
  pub settings : Settings
  pub names : List (List ℕ)
  pub format : Option (List DatePart)
  pub assignments : List Assignment
  pub blocks : List Block
  pub conditions : List Condition
  pub actions : List Action
  pub stage : Stage

abbrev pub progress_of : Draft → Progress
progress_of draft = record {
  settings = draft.settings;
  names = draft.names;
  format = draft.format;
  assignments = draft.assignments.items;
  blocks = draft.blocks.items;
  conditions = draft.conditions.items;
  actions = draft.actions.items;
  stage = draft.stage;
}

-- what no line says
abbrev pub start : Progress
start = record {
  settings = record { skipped = 0; separator = comma; mark = None; newest_first = false; reversed_days = false };
  names = [];
  format = None;
  assignments = [];
  blocks = [];
  conditions = [];
  actions = [];
  stage = stages.Outside;
}

-- the last of several lines decides
abbrev pub settings_with : Settings → Setting → Settings
settings_with s (set.Skip count) = record s { skipped = count }
settings_with s (set.Separator byte) = record s { separator = byte }
settings_with s (set.DecimalMark byte) = record s { mark = Some byte }
settings_with s set.NewestFirst = record s { newest_first = true }
settings_with s set.IntradayReversed = record s { reversed_days = true }

abbrev pub block_of : Progress → Block
block_of p = record { conditions = p.conditions; actions = p.actions }

-- the block that was open is one of the blocks
abbrev pub without_block : Progress → Progress
without_block p = record p { blocks = p.blocks ++ block_of p ∷ []; conditions = []; actions = []; stage = stages.Outside }

abbrev pub closed_at : Stage → Progress → Progress
closed_at stages.Outside p = p
closed_at stages.Opened p = p
closed_at stages.Asking p = p
closed_at stages.Acting p = without_block p

-- a block with assignments ends
abbrev pub closed : Progress → Progress
closed p = closed_at p.stage p

-- the last names decide; each column whose name is that of a field is assigned at this place
abbrev pub with_names : Progress → List (List ℕ) → Progress
with_names p names = record p { names = names; assignments = p.assignments ++ columns_from 1 names }

abbrev pub with_assignment : Progress → Assignment → Progress
with_assignment p a = record p { assignments = p.assignments ++ a ∷ [] }

abbrev pub with_condition : Progress → Condition → Progress
with_condition p c = record p { conditions = p.conditions ++ c ∷ []; stage = stages.Asking }

abbrev pub with_action : Progress → Action → Progress
with_action p a = record p { actions = p.actions ++ a ∷ []; stage = stages.Acting }

abbrev pub opened : Progress → Option Condition → Progress
opened p None = record p { stage = stages.Opened }
opened p (Some c) = with_condition p c

-- what a line outside blocks adds
abbrev pub with_rule : Progress → Form → Progress
with_rule p (forms.Set setting) = record p { settings = settings_with p.settings setting }
with_rule p (forms.Fields names) = with_names p names
with_rule p (forms.DateFormat parts) = record p { format = Some parts }
with_rule p (forms.Assign a) = with_assignment p a
with_rule p (forms.If condition) = opened p condition
with_rule p forms.Remark = p
with_rule p (forms.Ask condition) = p
with_rule p (forms.Act action) = p

-- what a line adds; a rule ends the block before it
abbrev pub put : Progress → Form → Progress
put p forms.Remark = p
put p (forms.Ask condition) = with_condition p condition
put p (forms.Act action) = with_action p action
put p (forms.Set setting) = with_rule (closed p) (forms.Set setting)
put p (forms.Fields names) = with_rule (closed p) (forms.Fields names)
put p (forms.DateFormat parts) = with_rule (closed p) (forms.DateFormat parts)
put p (forms.Assign a) = with_rule (closed p) (forms.Assign a)
put p (forms.If condition) = with_rule (closed p) (forms.If condition)

abbrev pub sheet_of : Progress → Sheet
sheet_of p = record {
  settings = p.settings;
  names = p.names;
  format = p.format;
  assignments = p.assignments;
  blocks = p.blocks;
}

abbrev pub finished_at : Stage → Progress → Option Sheet
finished_at stages.Outside p = Some (sheet_of p)
finished_at stages.Opened p = None
finished_at stages.Asking p = None
finished_at stages.Acting p = Some (sheet_of (without_block p))

-- what all lines say; nothing where a block is open that has no assignment
abbrev pub finished : Progress → Option Sheet
finished p = finished_at p.stage p
