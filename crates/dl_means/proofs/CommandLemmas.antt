-- Commands within commands: which names are constants, and which points are sends.
use Rattle.std.proofs.Common.{◌≡◌, ℕ, zero, suc, ℤ, ◌+◌, ◌-◌, ◌<◌, ◌≤◌, Bool, true, false, List, [], ◌∷◌, ◌++◌, length, get_or, drop, append_assoc, append-nil, refl, sym, ap, ◌∙◌, arith}
use Rattle.std.specs.Prelude.{◌&&◌, not, slice_get, unwrap_or}
use Rattle.std.specs.List.{list_all}
use Rattle.std.proofs.lemmas.List.{drop_more, drop_all}
use mathlib.Core.Former.{Count}
use Rattle.dl_term.specs.declared.syntax.Formula.{Formula}
use Rattle.dl_model.specs.declared.program.Command.{Command, Send, Await, Poll, Read, Set, If', While', Call, Row_of-Command, end_of-Command, more_of-Command, items-the_row-Command as items, items_hidden-the_row-Command-0 as items_hidden}
use Rattle.dl_model.specs.declared.program.Command.TheVariants.{If, While}
use Rattle.dl_model.specs.declared.program.Proc.{Proc}
use Rattle.dl_model.specs.declared.file.Decls.{Decls}
use Rattle.dl_model.specs.Block.{Block, followed, row_block, block_of}
use Rattle.dl_model.specs.Lookup.{no_proc}
use Rattle.dl_sequent.specs.declared.duty.Duty.{Duty}
use Rattle.dl_sequent.specs.declared.duty.Duty.TheVariants as duty
use Rattle.dl_forms.specs.Context.{Text}
use Rattle.dl_forms.specs.Table.{NameTable}
use Rattle.dl_means.specs.Points.{send_points, is_send_in, fits_point}
use Rattle.dl_means.specs.Says.{says, says_command, says_commands}
use Rattle.dl_means.specs.Flags.{flags_of, flags_in, flags_of_all, fits_flags}

-- ---- the rows of a command

abbrev yes_row : Command → (n : Count) × Row_of-Command n
yes_row (If' test _ left _ right) = (_, left)
yes_row _ = (_, end_of-Command)

abbrev no_row : Command → (n : Count) × Row_of-Command n
no_row (If' test _ left _ right) = (_, right)
no_row _ = (_, end_of-Command)

abbrev body_row : Command → (n : Count) × Row_of-Command n
body_row (While' test note _ body) = (_, body)
body_row _ = (_, end_of-Command)

-- ---- constants

says-items : (names : NameTable) (words : List (Text × ℤ)) (n : Count) (row : Row_of-Command n) → says_commands names words row ≡ list_all (says_command names words) (items n row)
says-items names words n end_of-Command = refl
says-items names words n (more_of-Command command rest) = ap (λ (b : Bool). says_command names words command && b) (says-items names words _ rest)

module _ (names : NameTable) (words : List (Text × ℤ)) where
  row-says : (n : Count) (row : Row_of-Command n) (commands : List Command) → items n row ≡ commands → says_commands names words row ≡ list_all (says_command names words) commands
  row-says n row commands is = says-items names words n row ∙ ap (list_all (says_command names words)) is

  pub if-says : (test : Formula) (chosen other : List Command) →
      says_command names words (If test chosen other) ≡ (says names words test && (list_all (says_command names words) chosen && list_all (says_command names words) other))
  if-says test chosen other =
      let left = yes_row (If test chosen other) in
      let right = no_row (If test chosen other) in
      ap (λ (b : Bool). says names words test && (b && says_commands names words right.1)) (row-says left.0 left.1 chosen (items_hidden chosen))
      ∙ ap (λ (b : Bool). says names words test && (list_all (says_command names words) chosen && b)) (row-says right.0 right.1 other (items_hidden other))

  pub while-says : (test note : Formula) (body : List Command) →
      says_command names words (While test note body) ≡ (says names words test && (says names words note && list_all (says_command names words) body))
  while-says test note body =
      let row = body_row (While test note body) in
      ap (λ (b : Bool). says names words test && (says names words note && b)) (row-says row.0 row.1 body (items_hidden body))

pub fails-first : (a b x : Bool) → x ≡ a → x ≡ false → x ≡ (a && b)
fails-first a b x e f = f ∙ sym (ap (λ v. v && b) (sym e ∙ f))

pub three-same : (a b d x y z : Bool) → a ≡ x → b ≡ y → d ≡ z → (a && (b && d)) ≡ (x && (y && z))
three-same a b d x y z e f g = ap (λ v. v && (b && d)) e ∙ (ap (λ v. x && (v && d)) f ∙ ap (λ v. x && (y && v)) g)

pub passes-on : (a b x y : Bool) → x ≡ a → x ≡ true → y ≡ b → y ≡ (a && b)
passes-on a b x y e f g = g ∙ sym (ap (λ v. v && b) (sym e ∙ f))

-- ---- points

row_blocks : (n : Count) (row : Row_of-Command n) → block_of (items n row) ≡ row_block row
row_blocks n end_of-Command = refl
row_blocks n (more_of-Command command rest) = ap (followed command) (row_blocks _ rest)

-- the points of a command and then of what follows it
pub followed-flags : (command : Command) (rest : Block) → send_points (followed command rest) ≡ flags_of command ++ send_points rest
followed-flags (Send note label tag to args) rest = refl
followed-flags (Await note label tag sender args) rest = refl
followed-flags (Poll note got label tag sender args) rest = refl
followed-flags (Read note into label field index) rest = refl
followed-flags (Set target value) rest = refl
followed-flags (If' test _ left _ right) rest =
    sym (append_assoc (send_points (row_block left)) (send_points (row_block right) ++ []) (send_points rest)
    ∙ ap (λ (flags : List Bool). send_points (row_block left) ++ flags) (append_assoc (send_points (row_block right)) [] (send_points rest)))
followed-flags (While' test note _ body) rest = ap (λ (flags : List Bool). false ∷ flags) (sym (append_assoc (send_points (row_block body)) [] (send_points rest)))
followed-flags (Call note frame into callee args) rest = refl

pub more-flags : (command : Command) (commands : List Command) → flags_in (command ∷ commands) ≡ flags_of command ++ flags_in commands
more-flags command commands = followed-flags command (block_of commands)

pub if-flags : (test : Formula) (chosen other : List Command) → flags_of (If test chosen other) ≡ flags_in chosen ++ flags_in other
if-flags test chosen other =
    let left = yes_row (If test chosen other) in
    let right = no_row (If test chosen other) in
    let first : send_points (row_block left.1) ≡ flags_in chosen = ap send_points (sym (row_blocks left.0 left.1) ∙ ap block_of (items_hidden chosen)) in
    let second : send_points (row_block right.1) ≡ flags_in other = ap send_points (sym (row_blocks right.0 right.1) ∙ ap block_of (items_hidden other)) in
    ap (λ (flags : List Bool). flags ++ (send_points (row_block right.1) ++ [])) first
    ∙ (ap (λ (flags : List Bool). flags_in chosen ++ (flags ++ [])) second ∙ ap (λ (flags : List Bool). flags_in chosen ++ flags) (append-nil (flags_in other)))

pub while-flags : (test note : Formula) (body : List Command) → flags_of (While test note body) ≡ false ∷ flags_in body
while-flags test note body =
    let row = body_row (While test note body) in
    let inner : send_points (row_block row.1) ≡ flags_in body = ap send_points (sym (row_blocks row.0 row.1) ∙ ap block_of (items_hidden body)) in
    ap (λ (flags : List Bool). false ∷ flags) (append-nil (send_points (row_block row.1)) ∙ inner)

-- the commands of a list, one after another
pub next-flags : (commands : List Command) (i : ℕ) (command : Command) (points new whole : List Bool) → i < length commands → command ≡ get_or commands i command →
    points ++ flags_in (drop i commands) ≡ whole → new ≡ points ++ flags_of command → new ++ flags_in (drop (i + 1) commands) ≡ whole
next-flags commands i command points new whole within is before new_is =
    let rest : List Command = drop (i + 1) commands in
    let here : drop i commands ≡ command ∷ rest = drop_more commands i command within ∙ ap (λ (x : Command). x ∷ rest) (sym is) in
    ap (λ (p : List Bool). p ++ flags_in rest) new_is
    ∙ (append_assoc points (flags_of command) (flags_in rest)
    ∙ (ap (λ (flags : List Bool). points ++ flags) (sym (more-flags command rest))
    ∙ (ap (λ (cs : List Command). points ++ flags_in cs) (sym here) ∙ before)))

pub all-flags : (commands : List Command) (i : ℕ) (points whole : List Bool) → length commands ≤ i → points ++ flags_in (drop i commands) ≡ whole → points ≡ whole
all-flags commands i points whole past e = sym (append-nil points) ∙ (ap (λ (cs : List Command). points ++ flags_in cs) (sym (drop_all i commands past)) ∙ e)

pub if-added : (command : Command) (test : Formula) (chosen other first second : List Command) (points halfway whole : List Bool) → command ≡ If test chosen other →
    first ≡ chosen → second ≡ other → halfway ≡ points ++ flags_in first → whole ≡ halfway ++ flags_in second → whole ≡ points ++ flags_of command
if-added command test chosen other first second points halfway whole is first_is second_is halfway_is whole_is =
    whole_is
    ∙ (ap (λ (p : List Bool). p ++ flags_in second) halfway_is
    ∙ (append_assoc points (flags_in first) (flags_in second)
    ∙ (ap (λ (cs : List Command). points ++ (flags_in cs ++ flags_in second)) first_is
    ∙ (ap (λ (cs : List Command). points ++ (flags_in chosen ++ flags_in cs)) second_is
    ∙ (ap (λ (flags : List Bool). points ++ flags) (sym (if-flags test chosen other)) ∙ ap (λ (x : Command). points ++ flags_of x) (sym is))))))

pub while-added : (command : Command) (test note : Formula) (body inside : List Command) (points halfway whole : List Bool) → command ≡ While test note body →
    inside ≡ body → halfway ≡ points ++ false ∷ [] → whole ≡ halfway ++ flags_in inside → whole ≡ points ++ flags_of command
while-added command test note body inside points halfway whole is inside_is halfway_is whole_is =
    whole_is
    ∙ (ap (λ (p : List Bool). p ++ flags_in inside) halfway_is
    ∙ (append_assoc points (false ∷ []) (flags_in inside)
    ∙ (ap (λ (cs : List Command). points ++ (false ∷ flags_in cs)) inside_is
    ∙ (ap (λ (flags : List Bool). points ++ flags) (sym (while-flags test note body)) ∙ ap (λ (x : Command). points ++ flags_of x) (sym is)))))

-- a point by its number
pub positive-point : (flags : List Bool) (point at : ℕ) → 0 < point → at ≡ point - 1 → unwrap_or (slice_get flags at) false ≡ is_send_in flags point
positive-point flags zero at positive is = absurd (omega (arith, positive))
positive-point flags (suc k) at positive is = let same : at ≡ k = omega (arith, is) in ap (λ (n : ℕ). unwrap_or (slice_get flags n) false) same

pub zero-point : (flags : List Bool) (point : ℕ) → point ≡ 0 → false ≡ is_send_in flags point
zero-point flags zero is = refl
zero-point flags (suc k) is = absurd (omega (arith, is))

flags-at : (procs : List Proc) (n : ℕ) → unwrap_or (slice_get (flags_of_all procs) n) [] ≡ flags_in (unwrap_or (slice_get procs n) no_proc).body
flags-at [] n = refl
flags-at (proc ∷ procs) zero = refl
flags-at (proc ∷ procs) (suc n) = flags-at procs n

-- the points of each procedure tell which names of obligations fit
pub flags-fit : (decls : Decls) (d : Duty) → fits_flags (flags_of_all decls.procs) d ≡ fits_point decls d
flags-fit decls (duty.AfterSend proc point) = ap (λ (flags : List Bool). is_send_in flags point) (flags-at decls.procs proc)
flags-fit decls (duty.AfterRead proc point) = ap (λ (flags : List Bool). not (is_send_in flags point)) (flags-at decls.procs proc)
flags-fit decls (duty.InitProtocol protocol) = refl
flags-fit decls (duty.InitInvariant invariant) = refl
flags-fit decls (duty.StepProtocol protocol tag receive) = refl
flags-fit decls (duty.StepInvariant invariant label tag receive) = refl
flags-fit decls (duty.Start proc) = refl
flags-fit decls (duty.Guard proc point) = refl
flags-fit decls (duty.Got proc point) = refl
flags-fit decls (duty.Miss proc point) = refl
flags-fit decls (duty.Body proc point) = refl
flags-fit decls (duty.Exit proc point) = refl
flags-fit decls (duty.Enter proc point) = refl
flags-fit decls (duty.Leave proc point) = refl
flags-fit decls (duty.Stable proc point label tag receive) = refl
flags-fit decls (duty.Frame proc point label tag receive) = refl
flags-fit decls (duty.Deploy node) = refl
