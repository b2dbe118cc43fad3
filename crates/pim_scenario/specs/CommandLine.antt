-- What the words of the command line mean, by clap's rules for a simple command.
use Rattle.std.{specs.{Prelude.{◌≡◌, ◌≢◌, Bool, true, false, List, [], ◌∷◌, codes, Option, Some, None, option_map, option_and_then, map, unwrap_or, if◌then◌else◌}, Option.option_map_or, Str.bytes_eq}}
use Rattle.clap.{specs.{Words.{App, Row, Rule, Text, Kinds, IsAmong, all_of, first_of, new_app, new_rule, with_rule, with_subcommand, fault_of, subcommand_of}, declared.{builder.action.ArgAction.TheVariants.{Append, SetTrue}, error.kind.ErrorKind.TheVariants.DisplayHelp}}}
use Rattle.pim_scenario.{specs.declared.command_line.{Answer.{Answer, TheVariants.{Accepted, Refused, Help}}, Command.{Command, TheVariants.{Run, Check}}, Tables.Tables, Words.Words, WireKind.{WireKind, TheVariants.{Memory, Udp}}}}

-- ---- the commands, as clap sees them

abbrev pub file_rule : Rule
file_rule = record (new_rule (codes "FILE")) { required = true }

abbrev pub wire_rule : Rule
wire_rule = record (new_rule (codes "wire")) {
  long = Some (codes "wire");
  value_names = 1;
  defaults = codes "memory" ∷ [];
}

abbrev pub tables_rule : Rule
tables_rule = record (new_rule (codes "tables")) {
  long = Some (codes "tables");
  action = Some SetTrue;
}

abbrev pub tables_each_rule : Rule
tables_each_rule = record (new_rule (codes "tables-each")) {
  long = Some (codes "tables-each");
  action = Some SetTrue;
}

abbrev pub from_rule : Rule
from_rule = record (new_rule (codes "from")) {
  long = Some (codes "from");
  value_names = 1;
  action = Some Append;
}

abbrev pub save_rule : Rule
save_rule = record (new_rule (codes "save")) {
  long = Some (codes "save");
  value_names = 1;
  action = Some Append;
}

abbrev pub shown_app : App
shown_app =
    with_rule (with_rule (with_rule (with_rule (new_app (codes "run")) file_rule) wire_rule) tables_rule)
    tables_each_rule

abbrev pub run_app : App
run_app = with_rule (with_rule shown_app from_rule) save_rule

abbrev pub check_app : App
check_app = with_rule (new_app (codes "check")) file_rule

abbrev pub top_app : App
top_app =
    let a = new_app (codes "pimlab") in
    record a { top = record a.top { subcommand_required = true } }

-- `pimlab run FILE [--wire memory|udp] [--tables] [--tables-each] [--from ROUTER=FILE ..] [--save ROUTER=FILE ..]` and
-- `pimlab check FILE`
abbrev pub pimlab_app : App
pimlab_app = with_subcommand (with_subcommand top_app run_app.top) check_app.top

-- ---- what the words mean

-- What an accepted command line asks for.
pub record Meaning : Type 0 where
  pub command : Command
  pub file : Text
  pub wire : WireKind
  pub tables : Tables
  pub from : List Text
  pub save : List Text

abbrev pub command_named : Text → Option Command
command_named name =
    if bytes_eq name (codes "run") then Some Run
    else (if bytes_eq name (codes "check") then Some Check else None)

-- The wire of that name; memory where none is named.
abbrev pub wire_named : Option Text → Option WireKind
wire_named None = Some Memory
wire_named (Some name) =
    if bytes_eq name (codes "memory") then Some Memory
    else (if bytes_eq name (codes "udp") then Some Udp else None)

-- An option that takes no value is given.
abbrev pub is_set : Text → List Row → Bool
is_set id rows = option_map_or (λ t. bytes_eq t (codes "true")) (first_of id rows) false

-- the values of an option, of all its uses
abbrev pub all_values : Text → List Row → List Text
all_values id rows = unwrap_or (all_of id rows) []

-- The meaning of the rows of a subcommand.
abbrev pub meant_in : Text → List Row → Option Meaning
meant_in name rows =
    option_and_then (λ command.
    option_and_then (λ wire.
    option_map (λ file. record {
      command = command;
      file = file;
      wire = wire;
      tables = record {
        after_each = is_set (codes "tables-each") rows;
        at_end = is_set (codes "tables") rows;
      };
      from = all_values (codes "from") rows;
      save = all_values (codes "save") rows;
    }) (first_of (codes "FILE") rows))
    (wire_named (first_of (codes "wire") rows)))
    (command_named name)

abbrev pub meant_by : Option (Text × List Row) → Option Meaning
meant_by None = None
meant_by (Some entered) = meant_in entered.0 entered.1

-- The meaning of a command line: nothing where clap finds a mistake in it.
abbrev pub meaning_unless : Kinds → Option Meaning → Option Meaning
meaning_unless [] meaning = meaning
meaning_unless (k ∷ ks) meaning = None

-- What the words of a command line ask for; none where clap refuses them.
unfoldable pub meaning_of : List Text → Option Meaning
meaning_of words =
    meaning_unless (fault_of pimlab_app words) (meant_by (subcommand_of pimlab_app words))

-- The meaning of words that were accepted.
abbrev pub meaning_in : Words → Meaning
meaning_in w = record {
  command = w.command;
  file = w.file.now;
  wire = w.wire;
  tables = w.tables;
  from = map (λ t. t.now) w.from.items;
  save = map (λ t. t.now) w.save.items;
}

-- The words of an answer.
abbrev pub words_in : Answer → Option Meaning
words_in (Accepted w) = Some (meaning_in w)
words_in Refused = None
words_in (Help text) = None

-- The answers that are possible, by the kinds of mistake that clap finds.
abbrev pub CanAnswer : Answer → Kinds → Type 0
CanAnswer (Accepted w) kinds = kinds ≡ []
CanAnswer Refused kinds = kinds ≢ DisplayHelp ∷ []
CanAnswer (Help text) kinds = IsAmong DisplayHelp kinds
