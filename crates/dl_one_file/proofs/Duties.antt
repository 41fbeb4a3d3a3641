-- Obligations that are written alike are equal.
use Rattle.std.proofs.Common.{◌≡◌, ℕ, ◌+◌, Bool, true, false, ◌==◌, if◌then◌else◌, List, [], ◌∷◌, ◌++◌, length, map, Option, Some, None, refl, ap, sym, subst, ◌∙◌, eq-eqb, arith}
use Rattle.std.specs.Prelude.{not, slice_get, pos, codes}
use Rattle.std.specs.List.{AllByRecursion as Each}
use Rattle.std.specs.Str.{bytes_eq}
use Rattle.dl_tree.specs.declared.tree.Tree.{Tree}
use Rattle.dl_model.specs.declared.protocol.Protocol.{Protocol}
use Rattle.dl_model.specs.declared.protocol.Tag.{Tag}
use Rattle.dl_model.specs.declared.protocol.Instances.{Instances}
use Rattle.dl_model.specs.declared.program.Proc.{Proc}
use Rattle.dl_model.specs.declared.file.Invariant.{Invariant}
use Rattle.dl_model.specs.declared.file.Decls.{Decls}
use Rattle.dl_model.specs.Block.{block_of}
use Rattle.dl_model.specs.Lookup.{proc_at}
use Rattle.dl_model.specs.Scopes.{protocol_found}
use Rattle.dl_model.specs.Words.{first_name}
use Rattle.dl_model.specs.Formed.{AreDistinct, IsFormed}
use Rattle.dl_sequent.specs.declared.duty.Duty.{Duty}
use Rattle.dl_sequent.specs.declared.duty.Duty.TheVariants as duty
use Rattle.dl_forms.specs.Context.{Text}
use Rattle.dl_forms.specs.Judge.{text_of}
use Rattle.dl_forms.specs.Table.{NameTable}
use Rattle.dl_forms.specs.Scope.{tag_syms}
use Rattle.dl_forms.specs.Show.{no_place, symbol, number, form}
use Rattle.dl_notation.specs.Trees.{parts_of}
use Rattle.dl_notation.proofs.TreeLemmas.{parts_of-List}
use Rattle.dl_shown.specs.Shown.{name_of, named, label_of, tag_name, tag_in, protocol_of_label, proc_name, node_name}
use Rattle.dl_shown.specs.Scripts.{way_of, own_protocol, own_tag, invariant_name, step_of, duty_of}
use Rattle.dl_means.specs.Points.{send_points, is_send_in, is_send, fits_point}
use Rattle.dl_one_file.proofs.Trees.{apart, no-not, IsPlain, parts-plain, same-parts, same-number, same-head, same-tail, text-of-plain}
use Rattle.dl_one_file.proofs.Alike.{same-name}
use Rattle.dl_one_file.proofs.Lists.{map-at, map-id, one-place, disjoint, behind-at, front-at}
use Rattle.dl_one_file.proofs.Skeleton.{same-option, same-place, SameParts, SameSkeleton}
use Rattle.dl_one_file.proofs.Order.{protocol_syms, invariant_syms, hook_syms, world_syms, from_labels, all-once, protocols-once, invariants-once, procs-once}

-- ---- kinds

abbrev kind : Duty → ℕ
kind (duty.InitProtocol protocol) = 0
kind (duty.InitInvariant invariant) = 0
kind (duty.StepProtocol protocol tag receive) = 1
kind (duty.StepInvariant invariant label tag receive) = 2
kind (duty.Deploy node) = 3
kind (duty.Start proc) = 4
kind (duty.Guard proc point) = 5
kind (duty.AfterSend proc point) = 6
kind (duty.AfterRead proc point) = 6
kind (duty.Got proc point) = 7
kind (duty.Miss proc point) = 8
kind (duty.Body proc point) = 9
kind (duty.Exit proc point) = 10
kind (duty.Enter proc point) = 11
kind (duty.Leave proc point) = 12
kind (duty.Stable proc point label tag receive) = 13
kind (duty.Frame proc point label tag receive) = 14

abbrev kind_of_word : Text → ℕ → ℕ
kind_of_word word count =
    if bytes_eq word (codes "init") then 0 else
    if bytes_eq word (codes "step") then (if count == 3 then 1 else 2) else
    if bytes_eq word (codes "deploy") then 3 else
    if bytes_eq word (codes "start") then 4 else
    if bytes_eq word (codes "guard") then 5 else
    if bytes_eq word (codes "after") then 6 else
    if bytes_eq word (codes "got") then 7 else
    if bytes_eq word (codes "miss") then 8 else
    if bytes_eq word (codes "body") then 9 else
    if bytes_eq word (codes "exit") then 10 else
    if bytes_eq word (codes "enter") then 11 else
    if bytes_eq word (codes "leave") then 12 else
    if bytes_eq word (codes "stable") then 13 else 14

abbrev kind_by : List Tree → ℕ
kind_by [] = 15
kind_by (word ∷ parts) = kind_of_word (text_of word) (length parts)

kind-of-form : (word : Text) (parts : List Tree) → kind_by (parts_of (form word parts)) ≡ kind_of_word word (length parts)
kind-of-form word parts = ap kind_by (parts_of-List (symbol word ∷ parts) no_place)

kind-shown : (names : NameTable) (decls : Decls) (d : Duty) → kind_by (parts_of (duty_of names decls d)) ≡ kind d
kind-shown names decls (duty.InitProtocol protocol) = kind-of-form (codes "init") (own_protocol names decls protocol ∷ [])
kind-shown names decls (duty.InitInvariant invariant) = kind-of-form (codes "init") (invariant_name names decls invariant ∷ [])
kind-shown names decls (duty.StepProtocol protocol tag receive) = kind-of-form (codes "step") (own_protocol names decls protocol ∷ own_tag names decls protocol tag ∷ way_of receive ∷ [])
kind-shown names decls (duty.StepInvariant invariant label tag receive) = kind-of-form (codes "step") (invariant_name names decls invariant ∷ step_of names decls label tag receive)
kind-shown names decls (duty.Deploy node) = kind-of-form (codes "deploy") (node_name names decls node ∷ [])
kind-shown names decls (duty.Start proc) = kind-of-form (codes "start") (proc_name names decls proc ∷ [])
kind-shown names decls (duty.Guard proc point) = kind-of-form (codes "guard") (proc_name names decls proc ∷ number (pos point) ∷ [])
kind-shown names decls (duty.AfterSend proc point) = kind-of-form (codes "after") (proc_name names decls proc ∷ number (pos point) ∷ [])
kind-shown names decls (duty.AfterRead proc point) = kind-of-form (codes "after") (proc_name names decls proc ∷ number (pos point) ∷ [])
kind-shown names decls (duty.Got proc point) = kind-of-form (codes "got") (proc_name names decls proc ∷ number (pos point) ∷ [])
kind-shown names decls (duty.Miss proc point) = kind-of-form (codes "miss") (proc_name names decls proc ∷ number (pos point) ∷ [])
kind-shown names decls (duty.Body proc point) = kind-of-form (codes "body") (proc_name names decls proc ∷ number (pos point) ∷ [])
kind-shown names decls (duty.Exit proc point) = kind-of-form (codes "exit") (proc_name names decls proc ∷ number (pos point) ∷ [])
kind-shown names decls (duty.Enter proc point) = kind-of-form (codes "enter") (proc_name names decls proc ∷ number (pos point) ∷ [])
kind-shown names decls (duty.Leave proc point) = kind-of-form (codes "leave") (proc_name names decls proc ∷ number (pos point) ∷ [])
kind-shown names decls (duty.Stable proc point label tag receive) = kind-of-form (codes "stable") (proc_name names decls proc ∷ number (pos point) ∷ step_of names decls label tag receive)
kind-shown names decls (duty.Frame proc point label tag receive) = kind-of-form (codes "frame") (proc_name names decls proc ∷ number (pos point) ∷ step_of names decls label tag receive)

-- ---- what is found by a name

some-named : {X : Type 0} (names : NameTable) (number : X → ℕ) (x : Option X) → IsPlain (named names number x) → (p : X) × (x ≡ Some p)
some-named names number None plain = absurd (apart (text-of-plain [] plain))
some-named names number (Some p) plain = (p, refl)

-- the protocol in which a tag is found
record TagFound (inst : Instances) (n : Option ℕ) (t : ℕ) (tag : Tag) : Type 0 where
  number : ℕ
  protocol : Protocol
  is : n ≡ Some number
  found : slice_get inst.protocols number ≡ Some protocol
  there : slice_get protocol.tags t ≡ Some tag

tag-in : (inst : Instances) (p t : ℕ) (tag : Tag) (found : Option Protocol) → slice_get inst.protocols p ≡ found → tag_in found t ≡ Some tag → TagFound inst (Some p) t tag
tag-in inst p t tag None h e = cc
tag-in inst p t tag (Some protocol) h e = record { number = p; protocol = protocol; is = refl; found = h; there = e }

tag-found : (inst : Instances) (n : Option ℕ) (t : ℕ) (tag : Tag) → tag_in (protocol_found inst n) t ≡ Some tag → TagFound inst n t tag
tag-found inst None t tag e = cc
tag-found inst (Some p) t tag e = tag-in inst p t tag (slice_get inst.protocols p) refl e

same-way : (r s : Bool) → way_of r ≡ way_of s → r ≡ s
same-way true true e = refl
same-way false false e = refl
same-way true false e = absurd (apart (ap (λ tree. bytes_eq (text_of tree) (codes "send")) e))
same-way false true e = absurd (apart (sym (ap (λ tree. bytes_eq (text_of tree) (codes "send")) e)))

module _ (na nb : NameTable) (da db : Decls) (same : SameSkeleton na nb da db) where
  pub same-label : (l m : ℕ) → label_of na da l ≡ label_of nb db m → IsPlain (label_of na da l) → l ≡ m
  same-label l m e plain =
      same-place na nb same.names (λ (s : ℕ). s) da.labels db.labels (ap (map (λ (s : ℕ). s)) same.labels) (subst AreDistinct (sym (map-id da.labels)) same.distinct) l m e plain

  pub same-tag : (n : Option ℕ) (t u : ℕ) → tag_name na da (tag_in (protocol_found da.inst n) t) ≡ tag_name nb db (tag_in (protocol_found db.inst n) u) →
      IsPlain (tag_name na da (tag_in (protocol_found da.inst n) t)) → t ≡ u
  same-tag n t u e plain =
      let (p, q, hp, hq, syms) = same-option na nb same.names (λ (t : Tag). t.sym) (tag_in (protocol_found da.inst n) t) (tag_in (protocol_found db.inst n) u) e plain in
      let x : TagFound da.inst n t p = tag-found da.inst n t p hp in
      let y : TagFound db.inst n u q = tag-found db.inst n u q hq in
      let both : Some x.number ≡ Some y.number = sym x.is ∙ y.is in
      let numbers : x.number ≡ y.number = cc in
      let parts : SameParts x.protocol y.protocol = same.parts x.number x.protocol y.protocol x.found (ap (slice_get db.inst.protocols) numbers ∙ y.found) in
      one-place (tag_syms x.protocol) t u p.sym parts.tags_once (map-at (λ (t : Tag). t.sym) x.protocol.tags t p x.there)
      (ap (λ ns. slice_get ns u) parts.tags ∙ (map-at (λ (t : Tag). t.sym) y.protocol.tags u q y.there ∙ ap Some (sym syms)))

  -- the tag of a label
  pub same-tag-of : (l m t u : ℕ) → l ≡ m → tag_name na da (tag_in (protocol_of_label da.inst l) t) ≡ tag_name nb db (tag_in (protocol_of_label db.inst m) u) →
      IsPlain (tag_name na da (tag_in (protocol_of_label da.inst l) t)) → t ≡ u
  same-tag-of l m t u labels e plain =
      let at : slice_get db.inst.of m ≡ slice_get da.inst.of l = (λ i. slice_get (sym same.of i) (sym labels i)) in
      same-tag (slice_get da.inst.of l) t u (e ∙ ap (λ n. tag_name nb db (tag_in (protocol_found db.inst n) u)) at) plain

  module _ (formed : IsFormed da) (protocols : protocol_syms da ≡ protocol_syms db) (invariants : da.invariants ≡ db.invariants) (procs : da.procs ≡ db.procs) where
    same-protocol : (p q : ℕ) → own_protocol na da p ≡ own_protocol nb db q → IsPlain (own_protocol na da p) → p ≡ q
    same-protocol p q e plain = same-place na nb same.names (λ (p : Protocol). p.sym) da.inst.protocols db.inst.protocols protocols (protocols-once da formed) p q e plain

    same-invariant : (i j : ℕ) → invariant_name na da i ≡ invariant_name nb db j → IsPlain (invariant_name na da i) → i ≡ j
    same-invariant i j e plain =
        same-place na nb same.names (λ (i : Invariant). i.sym) da.invariants db.invariants (ap (map (λ (i : Invariant). i.sym)) invariants) (invariants-once da formed) i j e plain

    -- no invariant has the name of a protocol
    two-kinds : (p j s : ℕ) → slice_get (protocol_syms da) p ≡ Some s → slice_get (invariant_syms da) j ≡ Some s → ⊥
    two-kinds p j s hp hj =
        let k1 : slice_get (invariant_syms da ++ map (λ (p : Proc). p.sym) da.procs) j ≡ Some s = front-at (invariant_syms da) (map (λ (p : Proc). p.sym) da.procs) j s hj in
        let k2 = behind-at (world_syms da) (invariant_syms da ++ map (λ (p : Proc). p.sym) da.procs) j s k1 in
        let k3 = behind-at (hook_syms da) (world_syms da ++ (invariant_syms da ++ map (λ (p : Proc). p.sym) da.procs)) k2.0 s k2.1 in
        let k4 = behind-at da.labels (hook_syms da ++ (world_syms da ++ (invariant_syms da ++ map (λ (p : Proc). p.sym) da.procs))) k3.0 s k3.1 in
        disjoint (protocol_syms da) (from_labels da) p k4.0 s (all-once da formed) hp k4.1

    protocol-invariant : (p j : ℕ) → own_protocol na da p ≡ invariant_name nb db j → IsPlain (own_protocol na da p) → ⊥
    protocol-invariant p j e plain =
        let x = some-named na (λ (p : Protocol). p.sym) (slice_get da.inst.protocols p) plain in
        let y = some-named nb (λ (i : Invariant). i.sym) (slice_get db.invariants j) (subst IsPlain e plain) in
        let shown : name_of na x.0.sym ≡ name_of nb y.0.sym = sym (ap (named na (λ (p : Protocol). p.sym)) x.1) ∙ (e ∙ ap (named nb (λ (i : Invariant). i.sym)) y.1) in
        let syms : x.0.sym ≡ y.0.sym = same-name na nb same.names x.0.sym y.0.sym shown (subst IsPlain (ap (named na (λ (p : Protocol). p.sym)) x.1) plain) in
        two-kinds p j x.0.sym (map-at (λ (p : Protocol). p.sym) da.inst.protocols p x.0 x.1)
        (map-at (λ (i : Invariant). i.sym) da.invariants j y.0 (ap (λ (is : List Invariant). slice_get is j) invariants ∙ y.1) ∙ ap Some (sym syms))

    invariant-protocol : (i q : ℕ) → invariant_name na da i ≡ own_protocol nb db q → IsPlain (invariant_name na da i) → ⊥
    invariant-protocol i q e plain =
        let x = some-named na (λ (i : Invariant). i.sym) (slice_get da.invariants i) plain in
        let y = some-named nb (λ (p : Protocol). p.sym) (slice_get db.inst.protocols q) (subst IsPlain e plain) in
        let shown : name_of na x.0.sym ≡ name_of nb y.0.sym = sym (ap (named na (λ (i : Invariant). i.sym)) x.1) ∙ (e ∙ ap (named nb (λ (p : Protocol). p.sym)) y.1) in
        let syms : x.0.sym ≡ y.0.sym = same-name na nb same.names x.0.sym y.0.sym shown (subst IsPlain (ap (named na (λ (i : Invariant). i.sym)) x.1) plain) in
        two-kinds q i x.0.sym (ap (λ ns. slice_get ns q) protocols ∙ (map-at (λ (p : Protocol). p.sym) db.inst.protocols q y.0 y.1 ∙ ap Some (sym syms)))
        (map-at (λ (i : Invariant). i.sym) da.invariants i x.0 x.1)

    -- ---- points of procedures

    same-proc : (p q : ℕ) → proc_name na da p ≡ proc_name nb db q → IsPlain (proc_name na da p) → p ≡ q
    same-proc p q e plain = same-place na nb same.names (λ (p : Proc). p.sym) da.procs db.procs (ap (map (λ (p : Proc). p.sym)) procs) (procs-once da formed) p q e plain

    same-point : (k j : ℕ) → number (pos k) ≡ number (pos j) → k ≡ j
    same-point k j e = let h : pos k ≡ pos j = same-number (pos k) (pos j) e in cc

    -- what stands behind the word of an obligation of a point, and behind its number
    abbrev pointed : (p k : ℕ) → (more : List Tree) → List Tree
    pointed p k more = proc_name na da p ∷ number (pos k) ∷ more

    abbrev pointed_b : (p k : ℕ) → (more : List Tree) → List Tree
    pointed_b p k more = proc_name nb db p ∷ number (pos k) ∷ more

    at-point : (p k q j : ℕ) (more others : List Tree) → pointed p k more ≡ pointed_b q j others → Each IsPlain (pointed p k more) → (p ≡ q) × (k ≡ j)
    at-point p k q j more others h ps = (same-proc p q (same-head _ _ _ _ h) ps.0, same-point k j (same-head _ _ _ _ (same-tail _ _ _ _ h)))

    same-step : (l t m u : ℕ) (r s : Bool) → step_of na da l t r ≡ step_of nb db m u s → Each IsPlain (step_of na da l t r) → (l ≡ m) × (t ≡ u) × (r ≡ s)
    same-step l t m u r s h ps =
        let ll : l ≡ m = same-label l m (same-head _ _ _ _ h) ps.0 in
        (ll, same-tag-of l m t u ll (same-head _ _ _ _ (same-tail _ _ _ _ h)) ps.1.0, same-way r s (same-head _ _ _ _ (same-tail _ _ _ _ (same-tail _ _ _ _ h))))

    -- a send and a read stand at no point both
    send-and-read : (p k q j : ℕ) → p ≡ q → k ≡ j → is_send da p k ≡ true → not (is_send db q j) ≡ true → ⊥
    send-and-read p k q j pp kk sent read =
        let there : is_send da p k ≡ is_send db q j = (λ i. is_send_in (send_points (block_of (proc_at (procs i) (pp i)).body)) (kk i)) in
        apart (sym (no-not (is_send db q j) read) ∙ (sym there ∙ sent))

    read-and-send : (p k q j : ℕ) → p ≡ q → k ≡ j → not (is_send da p k) ≡ true → is_send db q j ≡ true → ⊥
    read-and-send p k q j pp kk read sent =
        let there : is_send da p k ≡ is_send db q j = (λ i. is_send_in (send_points (block_of (proc_at (procs i) (pp i)).body)) (kk i)) in
        apart (sym (no-not (is_send da p k) read) ∙ (there ∙ sent))

    by-kind : (x y : Duty) → (kind x == kind y) ≡ true → duty_of na da x ≡ duty_of nb db y → IsPlain (duty_of na da x) → fits_point da x ≡ true → fits_point db y ≡ true → x ≡ y
    by-kind (duty.InitProtocol p) (duty.InitProtocol q) k e plain fx fy =
        ap duty.InitProtocol (same-protocol p q (same-head _ _ _ _ (same-parts _ _ _ _ e)) (parts-plain _ _ plain).0)
    by-kind (duty.InitProtocol p) (duty.InitInvariant j) k e plain fx fy =
        absurd (protocol-invariant p j (same-head _ _ _ _ (same-parts _ _ _ _ e)) (parts-plain _ _ plain).0)
    by-kind (duty.InitInvariant i) (duty.InitProtocol q) k e plain fx fy =
        absurd (invariant-protocol i q (same-head _ _ _ _ (same-parts _ _ _ _ e)) (parts-plain _ _ plain).0)
    by-kind (duty.InitInvariant i) (duty.InitInvariant j) k e plain fx fy =
        ap duty.InitInvariant (same-invariant i j (same-head _ _ _ _ (same-parts _ _ _ _ e)) (parts-plain _ _ plain).0)
    by-kind (duty.StepProtocol p t r) (duty.StepProtocol q u s) k e plain fx fy =
        let h : own_protocol na da p ∷ own_tag na da p t ∷ way_of r ∷ [] ≡ own_protocol nb db q ∷ own_tag nb db q u ∷ way_of s ∷ [] = same-parts _ _ _ _ e in
        let ps : Each IsPlain (own_protocol na da p ∷ own_tag na da p t ∷ way_of r ∷ []) = parts-plain _ _ plain in
        let pp : p ≡ q = same-protocol p q (same-head _ _ _ _ h) ps.0 in
        let te : own_tag na da p t ≡ own_tag nb db p u = same-head _ _ _ _ (same-tail _ _ _ _ h) ∙ ap (λ n. own_tag nb db n u) (sym pp) in
        let tt' : t ≡ u = same-tag (Some p) t u te ps.1.0 in
        let rr : r ≡ s = same-way r s (same-head _ _ _ _ (same-tail _ _ _ _ (same-tail _ _ _ _ h))) in
        λ i. duty.StepProtocol (pp i) (tt' i) (rr i)
    by-kind (duty.StepInvariant i l t r) (duty.StepInvariant j m u s) k e plain fx fy =
        let h : invariant_name na da i ∷ label_of na da l ∷ tag_name na da (tag_in (protocol_of_label da.inst l) t) ∷ way_of r ∷ []
        ≡ invariant_name nb db j ∷ label_of nb db m ∷ tag_name nb db (tag_in (protocol_of_label db.inst m) u) ∷ way_of s ∷ [] = same-parts _ _ _ _ e in
        let ps : Each IsPlain (invariant_name na da i ∷ label_of na da l ∷ tag_name na da (tag_in (protocol_of_label da.inst l) t) ∷ way_of r ∷ []) = parts-plain _ _ plain in
        let ii : i ≡ j = same-invariant i j (same-head _ _ _ _ h) ps.0 in
        let ll : l ≡ m = same-label l m (same-head _ _ _ _ (same-tail _ _ _ _ h)) ps.1.0 in
        let tt' : t ≡ u = same-tag-of l m t u ll (same-head _ _ _ _ (same-tail _ _ _ _ (same-tail _ _ _ _ h))) ps.1.1.0 in
        let rr : r ≡ s = same-way r s (same-head _ _ _ _ (same-tail _ _ _ _ (same-tail _ _ _ _ (same-tail _ _ _ _ h)))) in
        λ k. duty.StepInvariant (ii k) (ll k) (tt' k) (rr k)
    by-kind (duty.Deploy n) (duty.Deploy m) k e plain fx fy =
        let syms : first_name + n ≡ first_name + m = same-name na nb same.names (first_name + n) (first_name + m) (same-head _ _ _ _ (same-parts _ _ _ _ e)) (parts-plain _ _ plain).0 in
        let nodes : n ≡ m = omega (arith, syms) in
        ap duty.Deploy nodes
    by-kind (duty.Start p) (duty.Start q) k e plain fx fy =
        ap duty.Start (same-proc p q (same-head _ _ _ _ (same-parts _ _ _ _ e)) (parts-plain _ _ plain).0)
    by-kind (duty.Guard p n) (duty.Guard q m) k e plain fx fy =
        let w = at-point p n q m [] [] (same-parts _ _ _ _ e) (parts-plain _ _ plain) in
        λ i. duty.Guard (w.0 i) (w.1 i)
    by-kind (duty.AfterSend p n) (duty.AfterSend q m) k e plain fx fy =
        let w = at-point p n q m [] [] (same-parts _ _ _ _ e) (parts-plain _ _ plain) in
        λ i. duty.AfterSend (w.0 i) (w.1 i)
    by-kind (duty.AfterRead p n) (duty.AfterRead q m) k e plain fx fy =
        let w = at-point p n q m [] [] (same-parts _ _ _ _ e) (parts-plain _ _ plain) in
        λ i. duty.AfterRead (w.0 i) (w.1 i)
    by-kind (duty.Got p n) (duty.Got q m) k e plain fx fy =
        let w = at-point p n q m [] [] (same-parts _ _ _ _ e) (parts-plain _ _ plain) in
        λ i. duty.Got (w.0 i) (w.1 i)
    by-kind (duty.Miss p n) (duty.Miss q m) k e plain fx fy =
        let w = at-point p n q m [] [] (same-parts _ _ _ _ e) (parts-plain _ _ plain) in
        λ i. duty.Miss (w.0 i) (w.1 i)
    by-kind (duty.Body p n) (duty.Body q m) k e plain fx fy =
        let w = at-point p n q m [] [] (same-parts _ _ _ _ e) (parts-plain _ _ plain) in
        λ i. duty.Body (w.0 i) (w.1 i)
    by-kind (duty.Exit p n) (duty.Exit q m) k e plain fx fy =
        let w = at-point p n q m [] [] (same-parts _ _ _ _ e) (parts-plain _ _ plain) in
        λ i. duty.Exit (w.0 i) (w.1 i)
    by-kind (duty.Enter p n) (duty.Enter q m) k e plain fx fy =
        let w = at-point p n q m [] [] (same-parts _ _ _ _ e) (parts-plain _ _ plain) in
        λ i. duty.Enter (w.0 i) (w.1 i)
    by-kind (duty.Leave p n) (duty.Leave q m) k e plain fx fy =
        let w = at-point p n q m [] [] (same-parts _ _ _ _ e) (parts-plain _ _ plain) in
        λ i. duty.Leave (w.0 i) (w.1 i)
    by-kind (duty.AfterSend p n) (duty.AfterRead q m) k e plain fx fy =
        let w = at-point p n q m [] [] (same-parts _ _ _ _ e) (parts-plain _ _ plain) in
        absurd (send-and-read p n q m w.0 w.1 fx fy)
    by-kind (duty.AfterRead p n) (duty.AfterSend q m) k e plain fx fy =
        let w = at-point p n q m [] [] (same-parts _ _ _ _ e) (parts-plain _ _ plain) in
        absurd (read-and-send p n q m w.0 w.1 fx fy)
    by-kind (duty.Stable p n l t r) (duty.Stable q m l' u s) k e plain fx fy =
        let h : pointed p n (step_of na da l t r) ≡ pointed_b q m (step_of nb db l' u s) = same-parts _ _ _ _ e in
        let ps : Each IsPlain (pointed p n (step_of na da l t r)) = parts-plain _ _ plain in
        let w = at-point p n q m (step_of na da l t r) (step_of nb db l' u s) h ps in
        let v = same-step l t l' u r s (same-tail _ _ _ _ (same-tail _ _ _ _ h)) ps.1.1 in
        λ i. duty.Stable (w.0 i) (w.1 i) (v.0 i) (v.1 i) (v.2 i)
    by-kind (duty.Frame p n l t r) (duty.Frame q m l' u s) k e plain fx fy =
        let h : pointed p n (step_of na da l t r) ≡ pointed_b q m (step_of nb db l' u s) = same-parts _ _ _ _ e in
        let ps : Each IsPlain (pointed p n (step_of na da l t r)) = parts-plain _ _ plain in
        let w = at-point p n q m (step_of na da l t r) (step_of nb db l' u s) h ps in
        let v = same-step l t l' u r s (same-tail _ _ _ _ (same-tail _ _ _ _ h)) ps.1.1 in
        λ i. duty.Frame (w.0 i) (w.1 i) (v.0 i) (v.1 i) (v.2 i)
    by-kind _ _ k e plain fx fy = absurd (apart k)

    pub same-duty : (x y : Duty) → duty_of na da x ≡ duty_of nb db y → IsPlain (duty_of na da x) → fits_point da x ≡ true → fits_point db y ≡ true → x ≡ y
    same-duty x y e plain fx fy =
        let kinds : kind x ≡ kind y = sym (kind-shown na da x) ∙ (ap (λ tree. kind_by (parts_of tree)) e ∙ kind-shown nb db y) in
        by-kind x y (eq-eqb (kind x) (kind y) kinds) e plain fx fy
