-- The command as which words are parsed, and what the values of its subcommands ask for.
use Rattle.std.specs.Prelude.{◌≡◌, ℕ, List, Option, Some, None, true, is_some, codes, if◌then◌else◌}
use Rattle.std.specs.Str.{bytes_eq}
use Rattle.clap.specs.Walk.{Row, Rule, Text, first_of}
use Rattle.clap.specs.Simple.{App, new_app, new_rule, on_top, with_rule, with_subcommand}
use Rattle.spin_grammar.specs.Spelling as grammar
use Rattle.spin_grammar.specs.Spelling.{within, greatest}
use Rattle.spin_args.specs.declared.words.Asked.{Asked}
use Rattle.spin_args.specs.declared.words.Asked.TheVariants.{Run, Gen, Check, Join, Vm}

-- an argument that has to be given
abbrev pub needed : Text → Rule
needed id = record (new_rule id) { required = true }

abbrev pub run : App
run = with_rule (with_rule (new_app (codes "run")) (needed (codes "script"))) (new_rule (codes "packets"))

abbrev pub gen : App
gen = with_rule (new_app (codes "gen")) (needed (codes "number"))

abbrev pub check : App
check = with_rule (with_rule (with_rule (new_app (codes "check")) (needed (codes "script"))) (needed (codes "report"))) (new_rule (codes "packets"))

abbrev pub join : App
join = with_rule (with_rule (new_app (codes "join")) (needed (codes "script"))) (needed (codes "packets"))

abbrev pub vm : App
vm = with_rule (with_rule (new_app (codes "vm")) (needed (codes "script"))) (needed (codes "trace"))

abbrev pub bare : App
bare = on_top (λ s. record s {
  no_binary_name = true;
  disable_help_flag = true;
  disable_help_subcommand = true;
  subcommand_required = true;
}) (new_app (codes "spin"))

abbrev pub app : App
app = with_subcommand (with_subcommand (with_subcommand (with_subcommand (with_subcommand bare
    run.top) gen.top) check.top) join.top) vm.top

-- what the values of a subcommand ask for
abbrev pub run_by : Option Text → Option Text → Option Asked
run_by (Some script) packets = Some (Run script packets)
run_by None packets = None

abbrev pub gen_by : Option ℕ → Option Asked
gen_by (Some number) = Some (Gen number)
gen_by None = None

abbrev pub number_by : Option Text → Option Asked
number_by (Some word) = gen_by (within 0 greatest (grammar.number word))
number_by None = None

abbrev pub check_by : Option Text → Option Text → Option Text → Option Asked
check_by (Some script) (Some report) packets = Some (Check script report packets)
check_by _ _ packets = None

abbrev pub join_by : Option Text → Option Text → Option Asked
join_by (Some script) (Some packets) = Some (Join script packets)
join_by _ _ = None

abbrev pub vm_by : Option Text → Option Text → Option Asked
vm_by (Some script) (Some trace) = Some (Vm script trace)
vm_by _ _ = None

abbrev pub asked_by : Text → List Row → Option Asked
asked_by name rows =
    if bytes_eq name (codes "run") then run_by (first_of (codes "script") rows) (first_of (codes "packets") rows)
    else if bytes_eq name (codes "gen") then number_by (first_of (codes "number") rows)
    else if bytes_eq name (codes "check") then check_by (first_of (codes "script") rows) (first_of (codes "report") rows) (first_of (codes "packets") rows)
    else if bytes_eq name (codes "join") then join_by (first_of (codes "script") rows) (first_of (codes "packets") rows)
    else if bytes_eq name (codes "vm") then vm_by (first_of (codes "script") rows) (first_of (codes "trace") rows)
    else None

abbrev pub has : List Row → Text → Type 0
has rows id = is_some (first_of id rows) ≡ true

-- the subcommand has the values that have to be given
abbrev pub HasRequired : Text → List Row → Type 0
HasRequired name rows =
    (name ≡ codes "run" → has rows (codes "script"))
    × (name ≡ codes "gen" → has rows (codes "number"))
    × (name ≡ codes "check" → has rows (codes "script") × has rows (codes "report"))
    × (name ≡ codes "join" → has rows (codes "script") × has rows (codes "packets"))
    × (name ≡ codes "vm" → has rows (codes "script") × has rows (codes "trace"))
