-- The tests of a file say together that it is formed.
use Rattle.std.proofs.Common.{◌≡◌, ℕ, ◌<◌, Bool, true, false, not, List, [], length, sym, ◌∙◌, ap}
use Rattle.std.specs.Prelude.{nat_lt, Result, Ok, Err, IfOk, ◌↔◌}
use Rattle.std.specs.List.{AllByRecursion as Each}
use Rattle.std.specs.declared.alloc.AllocError.{AllocError}
use Rattle.dl_model.specs.declared.program.Proc.{Proc}
use Rattle.dl_model.specs.declared.file.Decls.{Decls}
use Rattle.dl_model.specs.Lookup.{arg_names}
use Rattle.dl_model.specs.Words.{me_word, result_word}
use Rattle.dl_model.specs.Sorts.{has}
use Rattle.dl_model.specs.Formed.{IsFormed, AreDistinct, file_bound}
use Rattle.dl_model.proofs.Small.{each-map}
use Rattle.dl_triples.specs.Taken.{own_names}
use Rattle.dl_file.specs.declared.file.Proof.{Proof}
use Rattle.dl_file.specs.declared.file.File.{File}
use Rattle.dl_faults.specs.Shown.{texts_of}
use Rattle.dl_faults.specs.Whole.{names_taken}
use Rattle.dl_faults.specs.Given.{ProofIsFormed, FileIsFormed, are_once, proc_names, program_names}
use Rattle.dl_formed.proofs.Deciding.{Says, said, two, lacks, below, equal, each, joined, flattened}
use Rattle.dl_formed.specs.Decided.{are_below}
use Rattle.dl_formed.proofs.Judging.{distinct_says}
use Rattle.dl_formed_file.specs.Bound.{with_names, bound_anywhere}
use Rattle.dl_formed_file.specs.Decided.{is_deployed, proof_is_formed, proc_is_below, variables_are_below, names_are_right}
use Rattle.dl_formed_file.specs.Keys.{duties_in}
use Rattle.dl_formed_file.proofs.BoundLemmas.{same-had, each-had, had-each, all-bound}

-- the names that the code found
abbrev found : Decls → List ℕ
found decls = with_names [] (bound_anywhere decls)

found-same : (decls : Decls) (n : ℕ) → has (found decls) n ≡ has (file_bound decls) n
found-same decls n = same-had n (bound_anywhere decls) ∙ ap (λ (names : List ℕ). has names n) (all-bound decls)

texts_say : (decls : Decls) (count : ℕ) → Says (are_below count (found decls)) (Each (λ name. name < count) (file_bound decls))
texts_say decls count =
    said (Each (λ name. name < count) (found decls)) (Each (λ name. name < count) (file_bound decls))
    (λ e. had-each (λ name. name < count) (file_bound decls) (λ n h. each-had (λ name. name < count) (found decls) e n (found-same decls n ∙ h)))
    (λ e. had-each (λ name. name < count) (found decls) (λ n h. each-had (λ name. name < count) (file_bound decls) e n (sym (found-same decls n) ∙ h)))
    (each (λ name. nat_lt name count) (λ name. name < count) (λ name. below name count) (found decls))

proc_variables_say : (count : ℕ) (proc : Proc) → Says (proc_is_below count proc) (Each (λ name. name < count) (proc_names proc))
proc_variables_say count proc =
    joined (λ name. name < count) (arg_names proc.params) proc.locals
    (each (λ name. nat_lt name count) (λ name. name < count) (λ name. below name count) (arg_names proc.params))
    (each (λ name. nat_lt name count) (λ name. name < count) (λ name. below name count) proc.locals)

variables_say : (decls : Decls) (count : ℕ) → Says (variables_are_below count decls) (Each (λ name. name < count) (program_names decls))
variables_say decls count =
    two (below result_word count) (two (below me_word count)
    (flattened proc_names (proc_is_below count) (λ name. name < count) (proc_variables_say count) decls.procs))

proof_says : (decls : Decls) (proof : Proof) → Says (proof_is_formed decls (found decls) proof) (ProofIsFormed decls proof)
proof_says decls proof =
    let own = own_names decls proof.duty in
    said
    ((length proof.names ≡ names_taken decls proof.duty)
    × (AreDistinct proof.names × (Each (λ name. has own name ≡ false) proof.names × Each (λ name. has (found decls) name ≡ false) proof.names)))
    (ProofIsFormed decls proof)
    (λ w. record {
      count = w.0;
      distinct = w.1.0;
      new = w.1.1.0;
      unbound = each-map (λ name. has (found decls) name ≡ false) (λ name. has (file_bound decls) name ≡ false) proof.names w.1.1.1 (λ n e. sym (found-same decls n) ∙ e);
    })
    (λ r. (
      r.count,
      (
        r.distinct,
        (r.new, each-map (λ name. has (file_bound decls) name ≡ false) (λ name. has (found decls) name ≡ false) proof.names r.unbound (λ n e. found-same decls n ∙ e)),
      ),
    ))
    (two (equal (length proof.names) (names_taken decls proof.duty)) (two (distinct_says proof.names)
    (two (each (λ name. not (has own name)) (λ name. has own name ≡ false) (λ name. lacks (has own name)) proof.names)
    (each (λ name. not (has (found decls) name)) (λ name. has (found decls) name ≡ false) (λ name. lacks (has (found decls) name)) proof.names))))

names_say : (file : File) → Says (names_are_right file (found file.decls))
    (Each (λ name. name < length (texts_of file)) (file_bound file.decls)
    × (Each (λ name. name < length (texts_of file)) (program_names file.decls) × Each (ProofIsFormed file.decls) file.proofs))
names_say file =
    two (texts_say file.decls (length (texts_of file)))
    (two (variables_say file.decls (length (texts_of file)))
    (each (proof_is_formed file.decls (found file.decls)) (ProofIsFormed file.decls) (proof_says file.decls) file.proofs))

-- a file for which all the other tests were passed is formed exactly where its names are right
pub formed-where : (r : Result Bool AllocError) (file : File) → IfOk r (λ right. right ≡ names_are_right file (found file.decls)) →
    is_deployed file.decls ≡ true → IsFormed file.decls → are_once (duties_in file.proofs) ≡ true →
    IfOk r (λ formed. (formed ≡ true) ↔ FileIsFormed file)
formed-where (Ok right) file e deployed formed once =
    let s = names_say file in (
      λ t. let w = s.there (sym e ∙ t) in record { decls = formed; deployed = deployed; texts = w.0; variables = w.1.0; proofs = w.1.1; once = once },
      λ w. e ∙ s.back (w.texts, (w.variables, w.proofs)),
    )
formed-where (Err x) file e deployed formed once = tt
