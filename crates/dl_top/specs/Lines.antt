-- The lines that the program writes, each with its LF.
use Rattle.std.specs.Prelude.{ℕ, List, [], ◌∷◌, ◌++◌, Option, Some, None, codes, decimal, if◌then◌else◌, ◌==◌}
use Rattle.dl_tree.specs.declared.tree.Place.{Place}
use Rattle.dl_tree.specs.declared.tree.Tree.{Tree}
use Rattle.dl_tree.specs.Layout.{layout}
use Rattle.dl_file.specs.declared.answer.Accepted.{Accepted}

abbrev pub usage_line : List ℕ
usage_line = codes "usage: disel check | show | run [--serial] [--budget B] [--order oldest|newest|seed:S] | gen K [--sum]" ++ (10 ∷ [])

abbrev pub read_fault_line : List ℕ
read_fault_line = codes "fault read" ++ (10 ∷ [])

abbrev pub too_long_line : List ℕ
too_long_line = codes "refused text longer than 1048576" ++ (10 ∷ [])

-- a line with a word and a number behind it
abbrev pub with_count : List ℕ → List ℕ → ℕ → List ℕ
with_count line label count = line ++ (label ++ decimal count)

abbrev pub accepted_line : Accepted → List ℕ
accepted_line counts =
    let nodes = with_count [] (codes "accepted nodes ") counts.nodes in
    let labels = with_count nodes (codes " labels ") counts.labels in
    let hooks = with_count labels (codes " hooks ") counts.hooks in
    let invariants = with_count hooks (codes " invariants ") counts.invariants in
    let programs = with_count invariants (codes " programs ") counts.programs in
    with_count programs (codes " obligations ") counts.obligations ++ (10 ∷ [])

-- the names of the rules of refusals
abbrev pub rule_names : List (ℕ × List ℕ)
rule_names =
    (1, codes "BadByte") ∷
    (2, codes "BadToken") ∷
    (3, codes "Unclosed") ∷
    (4, codes "Stray") ∷
    (5, codes "Deep") ∷
    (6, codes "BigNumber") ∷
    (10, codes "BadForm") ∷
    (11, codes "Unknown") ∷
    (12, codes "Twice") ∷
    (13, codes "Shadow") ∷
    (14, codes "BadSort") ∷
    (15, codes "Arity") ∷
    (16, codes "Wide") ∷
    (20, codes "NoLabel") ∷
    (21, codes "HookCoreMissing") ∷
    (22, codes "HookNotCovered") ∷
    (23, codes "FrameTouches") ∷
    (24, codes "InvariantOutside") ∷
    (30, codes "NoScript") ∷
    (31, codes "ExtraScript") ∷
    (32, codes "RuleFails") ∷
    (33, codes "Limit") ∷
    []

abbrev pub name_in : List (ℕ × List ℕ) → ℕ → List ℕ
name_in [] rule = codes "Unknown"
name_in (named ∷ more) rule = if rule == named.0 then named.1 else name_in more rule

-- the name of a rule
abbrev pub rule_name : ℕ → List ℕ
rule_name rule = name_in rule_names rule

-- what is named in a refusal, with a blank in front
abbrev pub named_line : Option Tree → List ℕ
named_line None = []
named_line (Some tree) = 32 ∷ layout tree

-- a refusal: the number of the rule, its name, the place, and what is named there
abbrev pub refusal_line : ℕ → Place → Option Tree → List ℕ
refusal_line rule place what =
    let head = codes "refused " ++ (decimal rule ++ (codes " " ++ (rule_name rule ++ (codes " " ++ (decimal place.line ++ (codes ":" ++ decimal place.col)))))) in
    (head ++ named_line what) ++ (10 ∷ [])
