-- What of a plain tree is written out is plain.
use Rattle.std.proofs.Common.{◌≡◌, ℤ, Bool, true, false, List, [], ◌∷◌, ◌++◌, map, Option, Some, None, refl, ap, sym, subst, ◌∙◌, ◌⊎◌, inl, inr}
use Rattle.std.specs.Prelude.{◌&&◌, ◌||◌, not, filter, codes}
use Rattle.std.specs.List.{list_all, list_any, AllByRecursion as Each}
use Rattle.std.specs.Str.{bytes_eq}
use Rattle.std.proofs.lemmas.Slice.Eq.{bytes_eq-Decides}
use mathlib.Core.Former.{Count}
use Rattle.dl_term.specs.declared.syntax.Sort.{Sort}
use Rattle.dl_tree.specs.declared.tree.Place.{Place}
use Rattle.dl_tree.specs.declared.tree.Tree.{Tree, Num, Sym, List', Row_of-Tree, end_of-Tree, more_of-Tree, items-the_row-Tree, items_shown-the_row-Tree-0}
use Rattle.dl_tree.specs.declared.tree.Tree.TheVariants as tree
use Rattle.dl_tree.specs.declared.tree.Tree.TheBlock.{shown-the_row-Tree-0}
use Rattle.dl_tree.specs.declared.tree.Tree.TheViews.{out-Tree, roll-Tree, roll-out-Tree}
use Rattle.dl_forms.specs.Context.{Text, look_up}
use Rattle.dl_forms.specs.Judge.{text_of}
use Rattle.dl_forms.specs.Show.{no_place, bare, symbol, number}
use Rattle.dl_notation.specs.Trees.{parts_of, first_word, begins_with}
use Rattle.dl_notation.specs.Environment.{Environment, sort_named}
use Rattle.dl_notation.specs.Behind.{declared_world}
use Rattle.dl_notation.proofs.TreeLemmas.{parts_of-Num, parts_of-Sym, parts_of-List}
use Rattle.dl_shown.specs.Shown.{listed, range_of}
use Rattle.dl_means.specs.Flat.{flat_range, flat_sort, flat_argument_of, flat_argument, flat_arguments, is_field, is_tag, is_coherence, flat_field, flat_tag, flat_parts, flat_protocol, flat_world, world_parts, flat_procedure, flat_value, flat_constant, flat_program, flat_deployment, flat_item}
use Rattle.dl_one_file.specs.Plain.{has_text, is_list, is_length_of_int, is_unknown, has_unknown, is_plain_tree}
use Rattle.dl_one_file.proofs.Trees.{apart, plain-Num, plain-Sym, plain-List, IsFine, IsKnown, list-fine, list-has, atom-known, known-behind}
use Rattle.dl_one_file.proofs.Lists.{each-append}
use Rattle.dl_forms.proofs.NameLemmas.{bare-Sym}
use Rattle.dl_forms.proofs.TermLemmas.{bare-Num, bare-List}

split : (b : Bool) → (b ≡ true) ⊎ (b ≡ false)
split true = inl refl
split false = inr refl

-- ---- lists of plain trees

both : (a b : Bool) → a ≡ true → b ≡ true → (a && b) ≡ true
both true b ha hb = hb
both false b ha hb = ha

no-either : (a b : Bool) → a ≡ false → b ≡ false → (a || b) ≡ false
no-either true b ha hb = ha
no-either false b ha hb = hb

no-and : (b : Bool) → (b && false) ≡ false
no-and true = refl
no-and false = refl

all-fine : (trees : List Tree) → Each IsFine trees → list_all is_plain_tree trees ≡ true
all-fine [] h = refl
all-fine (tree ∷ trees) h = both (is_plain_tree tree) (list_all is_plain_tree trees) h.0 (all-fine trees h.1)

none-unknown : (trees : List Tree) → Each IsKnown trees → list_any is_unknown trees ≡ false
none-unknown [] h = refl
none-unknown (tree ∷ trees) h = no-either (is_unknown tree) (list_any is_unknown trees) h.0 (none-unknown trees h.1)

pub list-of : (parts : List Tree) (p : Place) → has_unknown parts ≡ false → Each IsFine parts → IsFine (tree.List parts p)
list-of parts p known fine = plain-List parts p ∙ both (not (has_unknown parts)) (list_all is_plain_tree parts) (ap not known) (all-fine parts fine)

fine-listed : (parts : List Tree) → has_unknown parts ≡ false → Each IsFine parts → IsFine (listed parts)
fine-listed parts known fine = list-of parts no_place known fine

-- behind anything the parts may be known
pub has-none : (first : Tree) (parts : List Tree) → Each IsKnown parts → has_unknown (first ∷ parts) ≡ false
has-none first parts known = ap (λ b. not (is_list first) && b) (none-unknown parts known) ∙ no-and (not (is_list first))

-- a list that begins as another one does has none where what is known there is known here
has-kept : (first other : Tree) (parts others : List Tree) → is_list other ≡ is_list first → (Each IsKnown parts → Each IsKnown others) → has_unknown (first ∷ parts) ≡ false → has_unknown (other ∷ others) ≡ false
has-kept first other parts others same keeps h =
    elim (split (is_list first)) [
      | inl e ↦ ap (λ b. not b && list_any is_unknown others) (same ∙ e)
      | inr e ↦ has-none other others (keeps (known-behind first parts e h).1)
    ]

-- ---- a tree by its layers

pub whole-list : (shape : _) (row : _) (p : Place) → List' shape row p ≡ tree.List (items-the_row-Tree _ row) p
unfolding out-Tree roll-Tree denote.Hole.Carrier.out
whole-list shape row p =
    let parts = shown-the_row-Tree-0 shape row in
    sym (roll-out-Tree (List' shape row p)) ∙ tree.rolls-List parts p ∙ ap (λ x. tree.List x p) (items_shown-the_row-Tree-0 shape row)

-- the parts of a plain tree
pub record PartsFine (parts : List Tree) : Type 0 where
  pub fine : Each IsFine parts
  pub known : has_unknown parts ≡ false

parts-of-list : (parts : List Tree) (p : Place) → IsFine (tree.List parts p) → PartsFine parts
parts-of-list parts p h = record { fine = list-fine parts p h; known = list-has parts p h }

no-parts : PartsFine []
no-parts = record { fine = tt; known = refl }

pub parts-fine-of : (t : Tree) → IsFine t → PartsFine (parts_of t)
parts-fine-of (Num v p) h = subst PartsFine (sym (parts_of-Num v p)) no-parts
parts-fine-of (Sym name p) h = subst PartsFine (sym (parts_of-Sym name p)) no-parts
parts-fine-of (List' shape row p) h =
    let e : List' shape row p ≡ tree.List (items-the_row-Tree _ row) p = whole-list shape row p in
    subst PartsFine (sym (parts_of-List (items-the_row-Tree _ row) p) ∙ ap parts_of (sym e)) (parts-of-list (items-the_row-Tree _ row) p (subst IsFine e h))

-- ---- trees without their places

pub text-of-bare : (t : Tree) → text_of (bare t) ≡ text_of t
text-of-bare (Num v p) = ap text_of (bare-Num v p)
text-of-bare (Sym name p) = ap text_of (bare-Sym name p)
text-of-bare (List' shape row p) =
    let e : List' shape row p ≡ tree.List (items-the_row-Tree _ row) p = whole-list shape row p in
    ap (λ t. text_of (bare t)) e ∙ (ap text_of (bare-List (items-the_row-Tree _ row) p) ∙ ap text_of (sym e))

pub bare-is_list : (t : Tree) → is_list (bare t) ≡ is_list t
bare-is_list (Num v p) = ap is_list (bare-Num v p)
bare-is_list (Sym name p) = ap is_list (bare-Sym name p)
bare-is_list (List' shape row p) =
    let e : List' shape row p ≡ tree.List (items-the_row-Tree _ row) p = whole-list shape row p in
    ap (λ t. is_list (bare t)) e ∙ ap is_list (bare-List (items-the_row-Tree _ row) p)

-- lists with the same texts
same-length : (f : Tree → Tree) → ((t : Tree) → text_of (f t) ≡ text_of t) → (parts : List Tree) → is_length_of_int (map f parts) ≡ is_length_of_int parts
same-length f same [] = refl
same-length f same (word ∷ []) = refl
same-length f same (word ∷ label ∷ []) = λ i. bytes_eq (same word i) (codes "len") && bytes_eq (same label i) (codes "int")
same-length f same (word ∷ label ∷ other ∷ parts) = refl

listed-known : (parts : List Tree) → is_length_of_int parts ≡ false → IsKnown (listed parts)
listed-known parts h = ap is_length_of_int (parts_of-List parts no_place) ∙ h

bare-unknown : (t : Tree) → is_unknown (bare t) ≡ is_unknown t
bare-unknown (Num v p) = ap is_unknown (bare-Num v p) ∙ (ap is_length_of_int (parts_of-Num v no_place) ∙ sym (ap is_length_of_int (parts_of-Num v p)))
bare-unknown (Sym name p) = ap is_unknown (bare-Sym name p) ∙ (ap is_length_of_int (parts_of-Sym name no_place) ∙ sym (ap is_length_of_int (parts_of-Sym name p)))
bare-unknown (List' shape row p) =
    let items : List Tree = items-the_row-Tree _ row in
    let e : List' shape row p ≡ tree.List items p = whole-list shape row p in
    ap (λ t. is_unknown (bare t)) e ∙ (ap is_unknown (bare-List items p) ∙ (ap is_length_of_int (parts_of-List (map bare items) no_place)
    ∙ (same-length bare text-of-bare items ∙ (sym (ap is_length_of_int (parts_of-List items p)) ∙ ap is_unknown (sym e)))))

pub bare-known : (t : Tree) → IsKnown t → IsKnown (bare t)
bare-known t h = bare-unknown t ∙ h

bares-known : (parts : List Tree) → Each IsKnown parts → Each IsKnown (map bare parts)
bares-known [] h = tt
bares-known (t ∷ parts) h = (bare-known t h.0, bares-known parts h.1)

bares-has : (parts : List Tree) → has_unknown parts ≡ false → has_unknown (map bare parts) ≡ false
bares-has [] h = refl
bares-has (first ∷ parts) h = has-kept first (bare first) parts (map bare parts) (bare-is_list first) (bares-known parts) h

mutual
  pub bare-fine : (t : Tree) → IsFine t → IsFine (bare t)
  bare-fine (Num v p) h = ap is_plain_tree (bare-Num v p) ∙ plain-Num v no_place
  bare-fine (Sym name p) h = ap is_plain_tree (bare-Sym name p) ∙ (plain-Sym name no_place ∙ (sym (plain-Sym name p) ∙ h))
  bare-fine (List' shape row p) h =
      let items : List Tree = items-the_row-Tree _ row in
      let e : List' shape row p ≡ tree.List items p = whole-list shape row p in
      let parts : PartsFine items = parts-of-list items p (subst IsFine e h) in
      let made : IsFine (tree.List (map bare items) no_place) = list-of (map bare items) no_place (bares-has items parts.known) (row-fine _ row parts.fine) in
      subst IsFine (sym (bare-List items p) ∙ ap bare (sym e)) made

  row-fine : (n : Count) (row : Row_of-Tree n) → Each IsFine (items-the_row-Tree n row) → Each IsFine (map bare (items-the_row-Tree n row))
  row-fine n end_of-Tree h = tt
  row-fine n (more_of-Tree t rest) h = (bare-fine t h.0, row-fine _ rest h.1)

-- what a function keeps of each tree
each-map : (P : Tree → Type 0) (f : Tree → Tree) → ((t : Tree) → P t → P (f t)) → (parts : List Tree) → Each P parts → Each P (map f parts)
each-map P f keeps [] h = tt
each-map P f keeps (t ∷ parts) h = (keeps t h.0, each-map P f keeps parts h.1)

each-filter : (P : Tree → Type 0) (test : Tree → Bool) (parts : List Tree) → Each P parts → Each P (filter test parts)
each-filter P test [] h = tt
each-filter P test (t ∷ parts) h =
    elim (split (test t))
    [ inl e ↦ rw e (h.0, each-filter P test parts h.1) | inr e ↦ rw e (each-filter P test parts h.1) ]

bares-fine : (parts : List Tree) → Each IsFine parts → Each IsFine (map bare parts)
bares-fine parts h = each-map IsFine bare bare-fine parts h

-- ---- sorts

fine-symbol : (text : Text) → has_text text ≡ true → IsFine (symbol text)
fine-symbol text h = plain-Sym text no_place ∙ h

range-fine : (sort : Sort) → IsFine (range_of sort)
range-fine sort =
    fine-listed (symbol (codes "range") ∷ number sort.low ∷ number sort.high ∷ [])
    (has-none (symbol (codes "range")) (number sort.low ∷ number sort.high ∷ []) (atom-known (number sort.low) refl, (atom-known (number sort.high) refl, tt)))
    (fine-symbol (codes "range") refl, (plain-Num sort.low no_place, (plain-Num sort.high no_place, tt)))

range-known : (sort : Sort) → IsKnown (range_of sort)
range-known sort = listed-known (symbol (codes "range") ∷ number sort.low ∷ number sort.high ∷ []) refl

flat-range-fine : (text : Text) (sort : Option Sort) → has_text text ≡ true → IsFine (flat_range text sort)
flat-range-fine text None h = fine-symbol text h
flat-range-fine text (Some sort) h = range-fine sort

flat-range-known : (text : Text) (sort : Option Sort) → IsKnown (flat_range text sort)
flat-range-known text None = atom-known (symbol text) refl
flat-range-known text (Some sort) = range-known sort

-- a sort that is found has no text
range-text : (text : Text) (sort : Option Sort) → bytes_eq text (codes "int") ≡ false → bytes_eq (text_of (flat_range text sort)) (codes "int") ≡ false
range-text text None h = h
range-text text (Some sort) h = refl

module _ (env : Environment) where
  sort-fine : (t : Tree) → IsFine t → IsFine (flat_sort env t)
  sort-fine (Num v p) h = plain-Num v no_place
  sort-fine (Sym text p) h = flat-range-fine text (sort_named env text) (sym (plain-Sym text p) ∙ h)
  sort-fine (List' shape row p) h = bare-fine (List' shape row p) h

  sort-known : (t : Tree) → IsKnown t → IsKnown (flat_sort env t)
  sort-known (Num v p) h = atom-known (number v) refl
  sort-known (Sym text p) h = flat-range-known text (sort_named env text)
  sort-known (List' shape row p) h = bare-known (List' shape row p) h

  -- `int` stands for a range
  sort-no-int : (t : Tree) → bytes_eq (text_of (flat_sort env t)) (codes "int") ≡ false
  sort-no-int (Num v p) = refl
  sort-no-int (Sym text p) =
      elim (split (bytes_eq text (codes "int"))) [
        | inl e ↦ rw e refl
        | inr e ↦ range-text text (sort_named env text) e
      ]
  sort-no-int (List' shape row p) = ap (λ text. bytes_eq text (codes "int")) (text-of-bare (List' shape row p))

  -- ---- arguments

  argument-fine-by : (t : Tree) (parts : List Tree) → IsFine t → PartsFine parts → IsFine (flat_argument_of env t parts)
  argument-fine-by t [] h parts = bare-fine t h
  argument-fine-by t (name ∷ []) h parts = bare-fine t h
  argument-fine-by t (name ∷ sort ∷ []) h parts =
      fine-listed (bare name ∷ flat_sort env sort ∷ [])
      (has-kept name (bare name) (sort ∷ []) (flat_sort env sort ∷ []) (bare-is_list name) (λ known. (sort-known sort known.0, tt)) parts.known)
      (bare-fine name parts.fine.0, (sort-fine sort parts.fine.1.0, tt))
  argument-fine-by t (name ∷ sort ∷ other ∷ parts) h plain = bare-fine t h

  argument-fine : (t : Tree) → IsFine t → IsFine (flat_argument env t)
  argument-fine t h = argument-fine-by t (parts_of t) h (parts-fine-of t h)

  -- an argument is no length
  argument-known-by : (t : Tree) (parts : List Tree) → parts_of t ≡ parts → IsKnown (flat_argument_of env t parts)
  argument-known-by t [] e = bare-known t (ap is_length_of_int e)
  argument-known-by t (name ∷ []) e = bare-known t (ap is_length_of_int e)
  argument-known-by t (name ∷ sort ∷ []) e =
      listed-known (bare name ∷ flat_sort env sort ∷ []) (ap (λ b. bytes_eq (text_of (bare name)) (codes "len") && b) (sort-no-int sort) ∙ no-and (bytes_eq (text_of (bare name)) (codes "len")))
  argument-known-by t (name ∷ sort ∷ other ∷ parts) e = bare-known t (ap is_length_of_int e)

  argument-known : (t : Tree) → IsKnown (flat_argument env t)
  argument-known t = argument-known-by t (parts_of t) refl

  -- an argument has the text that it had
  argument-text-by : (t : Tree) (parts : List Tree) → parts_of t ≡ parts → text_of (flat_argument_of env t parts) ≡ text_of t
  argument-text-by t [] e = text-of-bare t
  argument-text-by t (name ∷ []) e = text-of-bare t
  argument-text-by (Num v p) (name ∷ sort ∷ []) e = refl
  argument-text-by (Sym text p) (name ∷ sort ∷ []) e = let none : [] ≡ name ∷ sort ∷ [] = sym (parts_of-Sym text p) ∙ e in cc
  argument-text-by (List' shape row p) (name ∷ sort ∷ []) e = refl
  argument-text-by t (name ∷ sort ∷ other ∷ parts) e = text-of-bare t

  argument-text : (t : Tree) → text_of (flat_argument env t) ≡ text_of t
  argument-text t = argument-text-by t (parts_of t) refl

  all-arguments-known : (parts : List Tree) → Each IsKnown (map (flat_argument env) parts)
  all-arguments-known [] = tt
  all-arguments-known (t ∷ parts) = (argument-known t, all-arguments-known parts)

  arguments-has : (parts : List Tree) → has_unknown (map (flat_argument env) parts) ≡ false
  arguments-has [] = refl
  arguments-has (t ∷ parts) = has-none (flat_argument env t) (map (flat_argument env) parts) (all-arguments-known parts)

  arguments-fine : (t : Tree) → IsFine t → IsFine (flat_arguments env t)
  arguments-fine t h =
      let p : PartsFine (parts_of t) = parts-fine-of t h in
      fine-listed (map (flat_argument env) (parts_of t)) (arguments-has (parts_of t)) (each-map IsFine (flat_argument env) argument-fine (parts_of t) p.fine)

  arguments-known : (t : Tree) → IsKnown t → IsKnown (flat_arguments env t)
  arguments-known t h = listed-known (map (flat_argument env) (parts_of t)) (same-length (flat_argument env) argument-text (parts_of t) ∙ h)

  -- ---- protocols

  field-fine-by : (part : Tree) (parts : List Tree) → IsFine part → PartsFine parts → IsFine (flat_field env part parts)
  field-fine-by part [] h ps = bare-fine part h
  field-fine-by part (word ∷ []) h ps = bare-fine part h
  field-fine-by part (word ∷ name ∷ []) h ps = bare-fine part h
  field-fine-by part (word ∷ name ∷ sort ∷ rest) h ps =
      fine-listed (bare word ∷ bare name ∷ flat_sort env sort ∷ map bare rest)
      (has-kept word (bare word) (name ∷ sort ∷ rest) (bare name ∷ flat_sort env sort ∷ map bare rest) (bare-is_list word) (λ known. (bare-known name known.0, (sort-known sort known.1.0, bares-known rest known.1.1))) ps.known)
      (bare-fine word ps.fine.0, (bare-fine name ps.fine.1.0, (sort-fine sort ps.fine.1.1.0, bares-fine rest ps.fine.1.1.1)))

  field-fine : (part : Tree) → IsFine part → IsFine (flat_field env part (parts_of part))
  field-fine part h = field-fine-by part (parts_of part) h (parts-fine-of part h)

  field-known-by : (part : Tree) (parts : List Tree) → IsKnown part → IsKnown (flat_field env part parts)
  field-known-by part [] h = bare-known part h
  field-known-by part (word ∷ []) h = bare-known part h
  field-known-by part (word ∷ name ∷ []) h = bare-known part h
  field-known-by part (word ∷ name ∷ sort ∷ rest) h = listed-known (bare word ∷ bare name ∷ flat_sort env sort ∷ map bare rest) refl

  tag-fine-by : (part : Tree) (parts : List Tree) → IsFine part → PartsFine parts → IsFine (flat_tag env part parts)
  tag-fine-by part [] h ps = bare-fine part h
  tag-fine-by part (word ∷ []) h ps = bare-fine part h
  tag-fine-by part (word ∷ name ∷ []) h ps = bare-fine part h
  tag-fine-by part (word ∷ name ∷ arguments ∷ rest) h ps =
      fine-listed (bare word ∷ bare name ∷ flat_arguments env arguments ∷ map bare rest)
      (has-kept word (bare word) (name ∷ arguments ∷ rest) (bare name ∷ flat_arguments env arguments ∷ map bare rest) (bare-is_list word) (λ known. (bare-known name known.0, (arguments-known arguments known.1.0, bares-known rest known.1.1))) ps.known)
      (bare-fine word ps.fine.0, (bare-fine name ps.fine.1.0, (arguments-fine arguments ps.fine.1.1.0, bares-fine rest ps.fine.1.1.1)))

  tag-fine : (part : Tree) → IsFine part → IsFine (flat_tag env part (parts_of part))
  tag-fine part h = tag-fine-by part (parts_of part) h (parts-fine-of part h)

  tag-known-by : (part : Tree) (parts : List Tree) → IsKnown part → IsKnown (flat_tag env part parts)
  tag-known-by part [] h = bare-known part h
  tag-known-by part (word ∷ []) h = bare-known part h
  tag-known-by part (word ∷ name ∷ []) h = bare-known part h
  tag-known-by part (word ∷ name ∷ arguments ∷ rest) h = listed-known (bare word ∷ bare name ∷ flat_arguments env arguments ∷ map bare rest) refl

  -- what holds of each part written out
  parts-each : (P : Tree → Type 0) → ((part : Tree) → P part → P (flat_field env part (parts_of part))) → ((part : Tree) → P part → P (flat_tag env part (parts_of part))) → ((part : Tree) → P part → P (bare part)) →
      (parts : List Tree) → Each P parts → Each P (flat_parts env parts)
  parts-each P fields tags bares parts h =
      each-append P (map (λ part. flat_field env part (parts_of part)) (filter is_field parts)) (map (λ part. flat_tag env part (parts_of part)) (filter is_tag parts) ++ map bare (filter is_coherence parts))
      (each-map P (λ part. flat_field env part (parts_of part)) fields (filter is_field parts) (each-filter P is_field parts h))
      (each-append P (map (λ part. flat_tag env part (parts_of part)) (filter is_tag parts)) (map bare (filter is_coherence parts))
      (each-map P (λ part. flat_tag env part (parts_of part)) tags (filter is_tag parts) (each-filter P is_tag parts h))
      (each-map P bare bares (filter is_coherence parts) (each-filter P is_coherence parts h)))

  parts-fine : (parts : List Tree) → Each IsFine parts → Each IsFine (flat_parts env parts)
  parts-fine parts h = parts-each IsFine field-fine tag-fine bare-fine parts h

  parts-known : (parts : List Tree) → Each IsKnown parts → Each IsKnown (flat_parts env parts)
  parts-known parts h = parts-each IsKnown (λ part. field-known-by part (parts_of part)) (λ part. tag-known-by part (parts_of part)) bare-known parts h

  protocol-by : (item : Tree) (parts : List Tree) → IsFine item → PartsFine parts → IsFine (flat_protocol env item parts)
  protocol-by item [] h ps = bare-fine item h
  protocol-by item (word ∷ []) h ps = bare-fine item h
  protocol-by item (word ∷ name ∷ parts) h ps =
      fine-listed (bare word ∷ bare name ∷ flat_parts env parts)
      (has-kept word (bare word) (name ∷ parts) (bare name ∷ flat_parts env parts) (bare-is_list word) (λ known. (bare-known name known.0, parts-known parts known.1)) ps.known)
      (bare-fine word ps.fine.0, (bare-fine name ps.fine.1.0, parts-fine parts ps.fine.1.1))

  procedure-by : (item : Tree) (parts : List Tree) → IsFine item → PartsFine parts → IsFine (flat_procedure env item parts)
  procedure-by item [] h ps = bare-fine item h
  procedure-by item (word ∷ []) h ps = bare-fine item h
  procedure-by item (word ∷ name ∷ []) h ps = bare-fine item h
  procedure-by item (word ∷ name ∷ world ∷ []) h ps = bare-fine item h
  procedure-by item (word ∷ name ∷ world ∷ parameters ∷ rest) h ps =
      fine-listed (bare word ∷ bare name ∷ bare world ∷ flat_arguments env parameters ∷ map bare rest)
      (has-kept word (bare word) (name ∷ world ∷ parameters ∷ rest) (bare name ∷ bare world ∷ flat_arguments env parameters ∷ map bare rest) (bare-is_list word)
      (λ known. (bare-known name known.0, (bare-known world known.1.0, (arguments-known parameters known.1.1.0, bares-known rest known.1.1.1)))) ps.known)
      (bare-fine word ps.fine.0, (bare-fine name ps.fine.1.0, (bare-fine world ps.fine.1.1.0, (arguments-fine parameters ps.fine.1.1.1.0, bares-fine rest ps.fine.1.1.1.1))))

  -- ---- the deployment

  value-fine : (text : Text) (found : Option ℤ) → has_text text ≡ true → IsFine (flat_value text found)
  value-fine text None h = fine-symbol text h
  value-fine text (Some v) h = plain-Num v no_place

  value-known : (text : Text) (found : Option ℤ) → IsKnown (flat_value text found)
  value-known text None = atom-known (symbol text) refl
  value-known text (Some v) = atom-known (number v) refl

  constant-fine : (t : Tree) → IsFine t → IsFine (flat_constant env t)
  constant-fine (Num v p) h = plain-Num v no_place
  constant-fine (Sym text p) h = value-fine text (look_up text env.words) (sym (plain-Sym text p) ∙ h)
  constant-fine (List' shape row p) h = bare-fine (List' shape row p) h

  constant-known : (t : Tree) → IsKnown t → IsKnown (flat_constant env t)
  constant-known (Num v p) h = atom-known (number v) refl
  constant-known (Sym text p) h = value-known text (look_up text env.words)
  constant-known (List' shape row p) h = bare-known (List' shape row p) h

  program-fine-by : (program : Tree) (parts : List Tree) → IsFine program → PartsFine parts → IsFine (flat_program env program parts)
  program-fine-by program [] h ps = bare-fine program h
  program-fine-by program (node ∷ []) h ps = bare-fine program h
  program-fine-by program (node ∷ procedure ∷ constants) h ps =
      fine-listed (bare node ∷ bare procedure ∷ map (flat_constant env) constants)
      (has-kept node (bare node) (procedure ∷ constants) (bare procedure ∷ map (flat_constant env) constants) (bare-is_list node)
      (λ known. (bare-known procedure known.0, each-map IsKnown (flat_constant env) constant-known constants known.1)) ps.known)
      (bare-fine node ps.fine.0, (bare-fine procedure ps.fine.1.0, each-map IsFine (flat_constant env) constant-fine constants ps.fine.1.1))

  program-fine : (program : Tree) → IsFine program → IsFine (flat_program env program (parts_of program))
  program-fine program h = program-fine-by program (parts_of program) h (parts-fine-of program h)

  program-known-by : (program : Tree) (parts : List Tree) → parts_of program ≡ parts → IsKnown program → IsKnown (flat_program env program parts)
  program-known-by program [] e h = bare-known program h
  program-known-by program (node ∷ []) e h = bare-known program h
  program-known-by program (node ∷ procedure ∷ []) e h =
      listed-known (bare node ∷ bare procedure ∷ []) (same-length bare text-of-bare (node ∷ procedure ∷ []) ∙ (ap is_length_of_int (sym e) ∙ h))
  program-known-by program (node ∷ procedure ∷ constant ∷ constants) e h = listed-known (bare node ∷ bare procedure ∷ map (flat_constant env) (constant ∷ constants)) refl

  program-known : (program : Tree) → IsKnown program → IsKnown (flat_program env program (parts_of program))
  program-known program h = program-known-by program (parts_of program) refl h

  deployment-by : (item : Tree) (parts : List Tree) → IsFine item → PartsFine parts → IsFine (flat_deployment env item parts)
  deployment-by item [] h ps = bare-fine item h
  deployment-by item (word ∷ []) h ps = bare-fine item h
  deployment-by item (word ∷ world ∷ programs) h ps =
      fine-listed (bare word ∷ bare world ∷ map (λ program. flat_program env program (parts_of program)) programs)
      (has-kept word (bare word) (world ∷ programs) (bare world ∷ map (λ program. flat_program env program (parts_of program)) programs) (bare-is_list word)
      (λ known. (bare-known world known.0, each-map IsKnown (λ program. flat_program env program (parts_of program)) program-known programs known.1)) ps.known)
      (bare-fine word ps.fine.0, (bare-fine world ps.fine.1.0, each-map IsFine (λ program. flat_program env program (parts_of program)) program-fine programs ps.fine.1.1))

  -- ---- items

  -- an item that is no world
  item-fine : (item : Tree) → IsFine item → begins_with (codes "world") item ≡ false → IsFine (flat_item env item)
  item-fine item h no_world =
      let ps : PartsFine (parts_of item) = parts-fine-of item h in
      elim (split (begins_with (codes "protocol") item)) [
        | inl e ↦ rw e (protocol-by item (parts_of item) h ps)
        | inr e ↦ elim (split (begins_with (codes "proc") item)) [
          | inl p ↦ rw (e, no_world, p) (procedure-by item (parts_of item) h ps)
          | inr p ↦ elim (split (begins_with (codes "deploy") item)) [
            | inl d ↦ rw (e, no_world, p, d) (deployment-by item (parts_of item) h ps)
            | inr d ↦ rw (e, no_world, p, d) (bare-fine item h)
          ]
        ]
      ]

  -- a world with its labels and hooks written out
  pub record WorldFlat (item : Tree) : Type 0 where
    pub word : Tree
    pub name : Tree
    pub rest : List Tree
    pub word_is : text_of word ≡ codes "world"
    pub name_fine : IsFine name
    pub name_known : IsKnown name
    pub flat_is : flat_item env item ≡ listed (bare word ∷ bare name ∷ rest)

  is-world : (item : Tree) → begins_with (codes "world") item ≡ true → flat_item env item ≡ flat_world env item (parts_of item)
  is-world item e =
      let word : first_word (parts_of item) ≡ codes "world" = (bytes_eq-Decides (first_word (parts_of item)) (codes "world")).0 e in
      let other : begins_with (codes "protocol") item ≡ false = ap (λ text. bytes_eq text (codes "protocol")) word in
      rw (other, e) refl

  -- a word is no list
  word-no-list : (word : Tree) → text_of word ≡ codes "world" → is_list word ≡ false
  word-no-list (Num v p) e = refl
  word-no-list (Sym name p) e = refl
  word-no-list (List' shape row p) e = absurd (apart (ap has_text e))

  world-by : (item : Tree) (parts : List Tree) → IsFine item → PartsFine parts → first_word parts ≡ codes "world" → flat_item env item ≡ flat_world env item parts → IsFine (flat_item env item) ⊎ WorldFlat item
  world-by item [] h ps word flat = inl (subst IsFine (sym flat) (bare-fine item h))
  world-by item (first ∷ []) h ps word flat = inl (subst IsFine (sym flat) (bare-fine item h))
  world-by item (first ∷ name ∷ parts) h ps word flat = inr (record {
    word = first;
    name = name;
    rest = world_parts (declared_world env parts);
    word_is = word;
    name_fine = ps.fine.1.0;
    name_known = (known-behind first (name ∷ parts) (word-no-list first word) ps.known).1.0;
    flat_is = flat;
  })

  pub either-fine : (item : Tree) → IsFine item → IsFine (flat_item env item) ⊎ WorldFlat item
  either-fine item h =
      elim (split (begins_with (codes "world") item)) [
        | inl e ↦ world-by item (parts_of item) h (parts-fine-of item h) ((bytes_eq-Decides (first_word (parts_of item)) (codes "world")).0 e) (is-world item e)
        | inr e ↦ inl (item-fine item h e)
      ]
