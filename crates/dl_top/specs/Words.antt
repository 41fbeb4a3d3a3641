-- The words of the command line.
use Rattle.std.specs.Prelude.{ℕ, nat_lt, Bool, true, false, ◌&&◌, List, [], ◌∷◌, Option, Some, None, is_some, unwrap_or, codes, if◌then◌else◌}
use Rattle.std.specs.Option.{option_map, option_and_then}
use Rattle.std.specs.Str.{bytes_eq}
use Rattle.dl_model.specs.declared.history.Order.{Order}
use Rattle.dl_model.specs.declared.history.Order.TheVariants.{Oldest}
use Rattle.dl_report.specs.Reading.{small_in, order_in}
use Rattle.dl_top.specs.declared.options.Options.{Options}
use Rattle.dl_top.specs.declared.options.Next.{Next}
use Rattle.dl_top.specs.declared.options.Next.TheVariants as wants
use Rattle.dl_top.specs.declared.request.Command.{Command}
use Rattle.dl_top.specs.declared.request.Command.TheVariants.{Check, Show, Run}

-- ---- the options of a run

-- a budget: a number from 1 to 100,000, without sign or leading zero
abbrev pub if_budget : ℕ → Option ℕ
if_budget n = if nat_lt 0 n && nat_lt n 100001 then Some n else None

abbrev pub budget_in : List ℕ → Option ℕ
budget_in word = option_and_then if_budget (small_in word)

-- no word so far
abbrev pub no_options : Options
no_options = record { serial = false; budget = None; order = None; next = wants.Name }

-- an option stands at most once
abbrev pub with_serial : Options → Option Options
with_serial options =
    if options.serial then None else Some (record { serial = true; budget = options.budget; order = options.order; next = wants.Name })

abbrev pub with_next : Options → Bool → Next → Option Options
with_next options stood next = if stood then None else Some (record { serial = options.serial; budget = options.budget; order = options.order; next = next })

-- the name of an option; behind two of them comes a value
abbrev pub with_name : Options → List ℕ → Option Options
with_name options word =
    if bytes_eq word (codes "--serial") then with_serial options
    else (if bytes_eq word (codes "--budget") then with_next options (is_some options.budget) wants.Budget
    else (if bytes_eq word (codes "--order") then with_next options (is_some options.order) wants.Order else None))

abbrev pub with_budget : Options → ℕ → Options
with_budget options budget = record { serial = options.serial; budget = Some budget; order = options.order; next = wants.Name }

abbrev pub with_order : Options → Order → Options
with_order options order = record { serial = options.serial; budget = options.budget; order = Some order; next = wants.Name }

-- the options after one more word
abbrev pub with_word_at : Next → Options → List ℕ → Option Options
with_word_at wants.Name options word = with_name options word
with_word_at wants.Budget options word = option_map (with_budget options) (budget_in word)
with_word_at wants.Order options word = option_map (with_order options) (order_in word)

abbrev pub with_word : Options → List ℕ → Option Options
with_word options word = with_word_at options.next options word

-- the options after all words
abbrev pub with_words : Options → List (List ℕ) → Option Options
with_words options [] = Some options
with_words options (word ∷ words) = option_and_then (λ more. with_words more words) (with_word options word)

-- The run with these options. Without one the budget is 1,000 and the oldest message comes first. No value is missing.
abbrev pub run_with_next : Next → Options → Option Command
run_with_next wants.Name options = Some (Run options.serial (unwrap_or options.budget 1000) (unwrap_or options.order Oldest))
run_with_next wants.Budget options = None
run_with_next wants.Order options = None

abbrev pub run_with : Options → Option Command
run_with options = run_with_next options.next options

-- the run that these words behind `run` name
abbrev pub run_of : List (List ℕ) → Option Command
run_of words = option_and_then run_with (with_words no_options words)

-- ---- commands

-- the one word that names a command
abbrev pub command_named : List ℕ → Option Command
command_named word = if bytes_eq word (codes "check") then Some Check else (if bytes_eq word (codes "show") then Some Show else None)

abbrev pub command_alone : List ℕ → List (List ℕ) → Option Command
command_alone word [] = command_named word
command_alone word (second ∷ more) = None

-- the command that these words name
abbrev pub command_of : List (List ℕ) → Option Command
command_of [] = None
command_of (word ∷ words) =
    if bytes_eq word (codes "run") then run_of words else command_alone word words

-- a command that is served on one thread: any but a run that isn't serial
abbrev pub if_served : Command → Option Command
if_served Check = Some Check
if_served Show = Some Show
if_served (Run serial budget order) = if serial then Some (Run serial budget order) else None

abbrev pub served : Option Command → Option Command
served command = option_and_then if_served command
