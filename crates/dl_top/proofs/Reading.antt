-- What a status says of the text that was read.
use Rattle.std.proofs.Common.{◌≡◌, ℕ, ◌≤◌, ◌<◌, ◌↔◌, ◌⊎◌, inl, inr, Bool, true, false, is_some, List, [], length, Some, None, Ok, refl, ap, subst, ◌∙◌, arith}
use Rattle.std.specs.declared.option.Option.{Option}
use Rattle.std.specs.Io.KnownBytes.{Consumes, IsAtEnd}
use Rattle.std.proofs.KnownBytes.{Consumes-nil}
use Rattle.dl_io.specs.Causes.{Rose}
use Rattle.dl_io.specs.Whole.{ReadsWhole}
use Rattle.dl_tree.specs.declared.tree.Place.{Place}
use Rattle.dl_tree.specs.declared.tree.Tree.{Tree}
use Rattle.dl_tree.specs.Faults.{fault_of}
use Rattle.dl_tree.specs.Spelling.{Spells}
use Rattle.dl_tree.proofs.SpellLemmas.{spelled_faultless}
use Rattle.dl_tree.proofs.OnceLemmas.{spells_once}
use Rattle.dl_file.specs.declared.file.File.{File}
use Rattle.dl_faults.specs.Wrong.{naming}
use Rattle.dl_faults.specs.Verdict.{first_fault}
use Rattle.dl_check.specs.Reading.{IsRead}
use Rattle.dl_check.specs.Answers.{IsRefused}
use Rattle.dl_notation.specs.declared.role.ListRole.TheVariants as list
use Rattle.dl_notation.specs.Environment.{nothing}
use Rattle.dl_notation.specs.Judge.{OfForms, OfNames, list_fault, file_fault}
use Rattle.dl_one_file.proofs.OneFile.{one-file}
use Rattle.dl_one_file.proofs.PlainFormulas.{no-faults}
use Rattle.dl_top.specs.declared.request.Command.{Command}
use Rattle.dl_top.specs.declared.status.Status.{Status}
use Rattle.dl_top.specs.declared.status.Status.TheVariants.{Done, Refused, Usage, ReadFault, WriteFault, NoMemory, Unended, TooLong}
use Rattle.dl_top.specs.Texts.{IsFaultless, HasFault, HasTreeFault, HasFileFault, TextIsRefused}
use Rattle.dl_top.specs.Endings.{Answers, Writes, IsTextOf, IsOfWholeText, IsAfterText, IsQuiet, IsServed, HasWriteFaultCause}

pub not-usage : (status : Status) → IsAfterText status → status ≡ Usage → ⊥
not-usage Done h e = cc
not-usage Refused h e = cc
not-usage WriteFault h e = cc
not-usage NoMemory h e = cc
not-usage Usage h e = h
not-usage ReadFault h e = h
not-usage Unended h e = cc
not-usage TooLong h e = h

pub not-too-long : (status : Status) → IsAfterText status → status ≡ TooLong → ⊥
not-too-long Done h e = cc
not-too-long Refused h e = cc
not-too-long WriteFault h e = cc
not-too-long NoMemory h e = cc
not-too-long Usage h e = h
not-too-long ReadFault h e = h
not-too-long Unended h e = cc
not-too-long TooLong h e = h

pub not-read-fault : (status : Status) → IsAfterText status → status ≡ ReadFault → ⊥
not-read-fault Done h e = cc
not-read-fault Refused h e = cc
not-read-fault WriteFault h e = cc
not-read-fault NoMemory h e = cc
not-read-fault Usage h e = h
not-read-fault ReadFault h e = h
not-read-fault Unended h e = cc
not-read-fault TooLong h e = h

-- ---- a text has a fault or has none

-- a tree without a fault of form, names and sorts has none of names and sorts
names-faultless : (tree : Tree) → file_fault tree ≡ None → list_fault tree (OfNames nothing) list.File ≡ None
names-faultless tree h = (no-faults (list_fault tree (OfForms false) list.File) (list_fault tree (OfNames nothing) list.File) h).1

-- a formed file of a tree without a fault is the one that was read
same-file : (tree : Tree) (a b : File) → IsRead tree a → IsRead tree b → a ≡ b
same-file tree a b x y = one-file tree a b (names-faultless tree x.faultless) x.means y.means x.formed y.formed

-- no tree has both a file without a fault and a fault
tree-excluded : (tree : Tree) (file : File) → IsRead tree file → first_fault file ≡ None → (is_some (file_fault tree) ≡ true) ⊎ HasFileFault tree → ⊥
tree-excluded tree file read none (inl e) = (let faultless : is_some (file_fault tree) ≡ false = ap is_some read.faultless in cc)
tree-excluded tree file read none (inr w) =
    let same = same-file tree file w.file read w.read in
    let faultless : is_some (first_fault w.file) ≡ false = ap is_some (subst (λ f. first_fault f ≡ None) same none) in
    let faulty = w.faulty in cc

pub faults-excluded : (text : List ℕ) → IsFaultless text → HasFault text → ⊥
faults-excluded text f (inl e) = (let none : is_some (fault_of text) ≡ false = ap is_some (spelled_faultless text f.tree f.spelled) in cc)
faults-excluded text f (inr w) =
    let same = spells_once text w.tree f.tree w.spelled f.spelled in
    tree-excluded f.tree f.file f.read f.provable (subst (λ tree. (is_some (file_fault tree) ≡ true) ⊎ HasFileFault tree) same w.faulty)

-- what is accepted has no fault
pub accepted-faultless : (command : Option Command) (text output : List ℕ) (ended : Bool) → IsTextOf command text output ended → IsFaultless text
accepted-faultless None text output ended a = absurd a
accepted-faultless (Some command) text output ended a =
    let accepted = a.2.known.accepted in
    record { tree = a.0; file = a.2.known.file; spelled = a.2.spelled; read = accepted.read; provable = accepted.faultless }

some-is : {X : Type 0} (o : Option X) (x : X) → o ≡ Some x → is_some o ≡ true
some-is o x e = ap is_some e

tree-faulty : (text : List ℕ) (tree : Tree) (rule : ℕ) (place : Place) (what : Option Tree) → Spells text tree → IsRefused tree rule place what → HasTreeFault text
tree-faulty text tree rule place what spelled (inl h) = record { tree = tree; spelled = spelled; faulty = inl (some-is (file_fault tree) (rule, place) h.0) }
tree-faulty text tree rule place what spelled (inr w) =
    record { tree = tree; spelled = spelled; faulty = inr (record { file = w.file; read = w.read; faulty = some-is (first_fault w.file) (naming rule place w.named) w.first }) }

-- what is refused has a fault
pub refused-faulty : (text : List ℕ) (rule : ℕ) (place : Place) (what : Option Tree) → TextIsRefused text rule place what → HasFault text
refused-faulty text rule place what (inl h) = inl (some-is (fault_of text) (rule, place) h.0)
refused-faulty text rule place what (inr r) = inr (tree-faulty text r.tree rule place what r.spelled r.refused)

-- a text that was read whole is refused exactly where it has a fault
pub fault-refused : (command : Option Command) (text : List ℕ) (before now : ℕ) (old new : Option (List ℕ)) (status : Status) → Writes command text before now old new status →
    IsOfWholeText status → (status ≡ Refused) ↔ HasFault text
fault-refused command text before now old new Done w whole =
    ((λ (e : Done ≡ Refused). cc), (λ h. absurd (faults-excluded text (accepted-faultless command text w.0 true w.1) h)))
fault-refused command text before now old new Unended w whole =
    ((λ (e : Unended ≡ Refused). cc), (λ h. absurd (faults-excluded text (accepted-faultless command text w.0 false w.1) h)))
fault-refused command text before now old new WriteFault w whole =
    ((λ (e : WriteFault ≡ Refused). cc), (λ h. absurd (faults-excluded text (accepted-faultless command text w.0 w.1 w.2) h)))
fault-refused command text before now old new Refused w whole = ((λ _. refused-faulty text w.1.0 w.1.1 w.1.2 w.1.3), (λ _. refl))
fault-refused command text before now old new Usage w whole = absurd whole
fault-refused command text before now old new ReadFault w whole = absurd whole
fault-refused command text before now old new NoMemory w whole = absurd whole
fault-refused command text before now old new TooLong w whole = absurd whole

-- a text that was read and has no fault is served, where the sink didn't fail and there was memory
pub faultless-served : (command : Option Command) (text : List ℕ) (before now : ℕ) (old new : Option (List ℕ)) (status : Status) → Writes command text before now old new status →
    IsAfterText status → HasWriteFaultCause before now status → IsFaultless text → IsQuiet before now → IsServed status
faultless-served command text before now old new Done w after cause f quiet = tt
faultless-served command text before now old new Unended w after cause f quiet = tt
faultless-served command text before now old new NoMemory w after cause f quiet = tt
faultless-served command text before now old new WriteFault w after cause f quiet = quiet (cause.failed refl)
faultless-served command text before now old new Refused w after cause f quiet = faults-excluded text f (refused-faulty text w.1.0 w.1.1 w.1.2 w.1.3)
faultless-served command text before now old new Usage w after cause f quiet = after
faultless-served command text before now old new ReadFault w after cause f quiet = after
faultless-served command text before now old new TooLong w after cause f quiet = after

-- ---- the whole answer

-- the text was read whole
pub answers-after : (command : Option Command) (limit : ℕ) (left left_behind : Option (List ℕ)) (reads_before reads_now : ℕ) (old new : Option (List ℕ)) (before now : ℕ) (status : Status)
    (text : List ℕ) → Consumes left left_behind text → length text ≤ limit → IsAtEnd left_behind →
    IsAfterText status → HasWriteFaultCause before now status → Writes command text before now old new status →
    Answers command limit left left_behind reads_before reads_now old new before now status
answers-after command limit left left_behind reads_before reads_now old new before now status text consumed short ended after cause written = record {
  text = text;
  consumed = consumed;
  whole = λ _. (short, ended);
  too_long = ((λ e. absurd (not-too-long status after e)), (λ (long : limit < length text). absurd (omega (arith, short, long))));
  written = written;
  refused = fault-refused command text before now old new status written;
  complete = λ f _ _ _ quiet. faultless-served command text before now old new status written after cause f quiet;
}

-- what was read is the text
pub answers-read : {V : Type 0} (items : V → List ℕ) (value : V) (slice : List ℕ) (command : Option Command) (limit : ℕ) (left left_behind : Option (List ℕ)) (reads_before reads_now : ℕ)
    (old new : Option (List ℕ)) (before now : ℕ) (status : Status) → ReadsWhole items limit left left_behind (Ok value) → slice ≡ items value →
    IsAfterText status → HasWriteFaultCause before now status → Writes command slice before now old new status →
    Answers command limit left left_behind reads_before reads_now old new before now status
answers-read items value slice command limit left left_behind reads_before reads_now old new before now status read same after cause written =
    answers-after command limit left left_behind reads_before reads_now old new before now status read.given read.consumed read.answer.1 read.answer.2 after cause
    (subst (λ text. Writes command text before now old new status) (same ∙ read.answer.0) written)

-- the source failed
pub answers-read-fault : (command : Option Command) (limit : ℕ) (left left_behind : Option (List ℕ)) (reads_before reads_now : ℕ) (old new : Option (List ℕ)) (before now : ℕ)
    (text : List ℕ) → Consumes left left_behind text → length text ≤ limit → Rose reads_before reads_now → Writes command text before now old new ReadFault →
    Answers command limit left left_behind reads_before reads_now old new before now ReadFault
answers-read-fault command limit left left_behind reads_before reads_now old new before now text consumed short rose written = record {
  text = text;
  consumed = consumed;
  whole = λ w. absurd w;
  too_long = ((λ (e : ReadFault ≡ TooLong). cc), (λ (long : limit < length text). absurd (omega (arith, short, long))));
  written = written;
  refused = λ w. absurd w;
  complete = λ _ _ _ quiet _. absurd (quiet rose);
}

-- there was no memory for the text
pub answers-no-memory : (command : Option Command) (limit : ℕ) (left left_behind : Option (List ℕ)) (reads_before reads_now : ℕ) (old new : Option (List ℕ)) (before now : ℕ)
    (text : List ℕ) → Consumes left left_behind text → length text ≤ limit → Writes command text before now old new NoMemory →
    Answers command limit left left_behind reads_before reads_now old new before now NoMemory
answers-no-memory command limit left left_behind reads_before reads_now old new before now text consumed short written = record {
  text = text;
  consumed = consumed;
  whole = λ w. absurd w;
  too_long = ((λ (e : NoMemory ≡ TooLong). cc), (λ (long : limit < length text). absurd (omega (arith, short, long))));
  written = written;
  refused = λ w. absurd w;
  complete = λ _ _ _ _ _. tt;
}

-- the text is too long
pub answers-too-long : (command : Option Command) (limit : ℕ) (left left_behind : Option (List ℕ)) (reads_before reads_now : ℕ) (old new : Option (List ℕ)) (before now : ℕ)
    (text : List ℕ) → Consumes left left_behind text → limit < length text → Writes command text before now old new TooLong →
    Answers command limit left left_behind reads_before reads_now old new before now TooLong
answers-too-long command limit left left_behind reads_before reads_now old new before now text consumed long written = record {
  text = text;
  consumed = consumed;
  whole = λ w. absurd w;
  too_long = ((λ _. long), (λ _. refl));
  written = written;
  refused = λ w. absurd w;
  complete = λ _ _ (short : length text ≤ limit) _ _. absurd (omega (arith, short, long));
}

-- the words name no command
pub answers-usage : (limit : ℕ) (left : Option (List ℕ)) (reads : ℕ) (old new : Option (List ℕ)) (before now : ℕ) → Writes None [] before now old new Usage →
    Answers None limit left left reads reads old new before now Usage
answers-usage limit left reads old new before now written = record {
  text = [];
  consumed = Consumes-nil left;
  whole = λ w. absurd w;
  too_long = ((λ (e : Usage ≡ TooLong). cc), (λ (long : limit < 0). absurd (omega (arith, long))));
  written = written;
  refused = λ w. absurd w;
  complete = λ _ (known : false ≡ true) _ _ _. cc;
}
