-- The three small files are formed, and keep to their worlds.
use Rattle.std.proofs.Common.{◌≡◌, ℕ, zero, suc, ◌<◌, pos, Bool, true, false, Some, [], ◌∷◌, refl, sym, subst, ◌&&◌, ◌==◌, inl, inr, lit<, arith}
use Rattle.std.specs.Prelude.{slice_get}
use Rattle.std.proofs.lemmas.Bool.{eqb-true, false≢true}
use Rattle.dl_term.specs.Syntax.{opened}
use Rattle.dl_model.specs.declared.program.Proc.{Proc}
use Rattle.dl_model.specs.declared.file.World.{World}
use Rattle.dl_model.specs.declared.file.Decls.{Decls}
use Rattle.dl_model.specs.Sorts.{has, IsSort}
use Rattle.dl_model.specs.Lookup.{hook_at, world_of, composed}
use Rattle.dl_model.specs.Worlds.{Injects, ProcKeepsWorlds, KeepsWorlds}
use Rattle.dl_model.specs.Formed.{ProtocolIsFormed, ProcIsFormed, IsFormed}
use Rattle.dl_model.specs.Examples.{int, bool, count, counter, mail_protocol, client, server, mail, vote, query, caster, voting}
use Rattle.dl_model.proofs.Small.{some-same, either-true}

pub one-of : {X : Type 0} (P : ℕ → X → Type 0) (x : X) → P 0 x → (n : ℕ) (y : X) → slice_get (x ∷ []) n ≡ Some y → P n y
one-of P x h zero y e = subst (P 0) (some-same x y e) h
one-of P x h (suc n) y e = cc

pub two-of : {X : Type 0} (P : ℕ → X → Type 0) (w x : X) → P 0 w → P 1 x → (n : ℕ) (y : X) → slice_get (w ∷ x ∷ []) n ≡ Some y → P n y
two-of P w x g h zero y e = subst (P 0) (some-same w y e) g
two-of P w x g h (suc zero) y e = subst (P 1) (some-same x y e) h
two-of P w x g h (suc (suc n)) y e = cc

int-sort : IsSort int
int-sort = record { low = refl; high = refl; holds_zero = refl }

pub bool-sort : IsSort bool
bool-sort = record { low = refl; high = refl; holds_zero = refl }

count-formed : ProtocolIsFormed 2 count
unfolding opened
count-formed = record {
  few_fields = omega arith;
  few_tags = omega arith;
  field_names = record { distinct = (refl, tt); allowed = (omega arith, tt) };
  tag_names = record { distinct = (refl, tt); allowed = (omega arith, tt) };
  fields = (record { sort = int-sort; first = (refl, lit< tt); first_in_sort = λ node b. refl }, tt);
  tags = (
    record {
      args = (omega arith, tt);
      names = record { distinct = tt; allowed = tt };
      send = record {
        guard = ((tt, tt), refl);
        updates = (record { field = refl; index = tt; value = ((((refl, refl), refl), (tt, lit< tt, lit< tt)), refl) }, tt);
        once = (refl, tt);
      };
      receive = tt;
    },
    tt,
  );
  coherence = ((refl, (refl, (refl, refl))), (lit< tt, tt));
}

pub counter-formed : IsFormed counter
unfolding opened
counter-formed = record {
  small = record { some_node = omega arith; nodes = omega arith; labels = omega arith; protocols = omega arith; hooks = omega arith; worlds = omega arith; invariants = omega arith; procs = omega arith; points = omega arith };
  inst = record { protocols = one-of (λ n protocol. ProtocolIsFormed 2 protocol) count count-formed; labels = (lit< tt, tt) };
  label_names = refl;
  hooks = tt;
  worlds = (record { labels = (lit< tt, tt); hooks = tt; labels_once = (refl, tt); hooks_once = tt }, tt);
  invariants = one-of _ _ (record { world = lit< tt; formula = ((refl, (refl, (refl, refl))), (lit< tt, tt)) });
  procs = λ number proc e. cc;
  deploy = (lit< tt, tt, tt);
  names = record { distinct = (refl, (refl, (refl, (refl, tt)))); allowed = (omega arith, (omega arith, (omega arith, (omega arith, tt)))) };
  apart = (refl, (refl, tt));
}

pub injects-itself : (d : Decls) (w : World) → w.hooks ≡ [] → Injects d w w
injects-itself d w h = record { labels = λ label m. m; hooks = λ hook. none (has w.hooks hook) (has w.labels (hook_at d hook).client) (subst (λ hooks. has hooks hook ≡ false) (sym h) refl) }
  where
    none : (a b : Bool) → a ≡ false → a ≡ (a && b)
    none false b e = refl
    none true b e = cc

pub counter-keeps : KeepsWorlds counter
unfolding opened
counter-keeps = record {
  cores = one-of (λ n world. (hook : ℕ) → has world.hooks hook ≡ true → has world.labels (hook_at counter hook).core ≡ true) _ (λ hook m. cc);
  clients = one-of (λ n world. (hook : ℕ) → has world.hooks hook ≡ true → has world.labels (hook_at counter hook).client ≡ true) _ (λ hook m. cc);
  invariants = one-of _ _ refl;
  visible = one-of _ _ (injects-itself counter (composed counter) refl);
  procs = λ proc b. absurd (omega arith);
  programs = λ node program e. cc;
}

-- ---- mail

mail_protocol-formed : ProtocolIsFormed 2 mail_protocol
unfolding opened
mail_protocol-formed = record {
  few_fields = omega arith;
  few_tags = omega arith;
  field_names = record { distinct = (refl, tt); allowed = (omega arith, tt) };
  tag_names = record { distinct = (refl, tt); allowed = (omega arith, tt) };
  fields = (record { sort = bool-sort; first = (refl, lit< tt); first_in_sort = λ node b. refl }, tt);
  tags = (
    record {
      args = (omega arith, (int-sort, tt));
      names = record { distinct = (refl, tt); allowed = (omega arith, tt) };
      send = record { guard = ((tt, tt), refl); updates = tt; once = tt };
      receive = record { guard = ((tt, tt), refl); updates = (record { field = refl; index = tt; value = ((refl, lit< tt), refl) }, tt); once = (refl, tt) };
    },
    tt,
  );
  coherence = tt;
}

mail-procs : (number : ℕ) (proc : Proc) → slice_get (mail (pos 0)).procs number ≡ Some proc → ProcIsFormed (mail (pos 0)) number proc
unfolding opened
mail-procs = two-of (λ number proc. ProcIsFormed (mail (pos 0)) number proc) client (server (pos 0))
    (record {
      world = lit< tt;
      params = (omega arith, (int-sort, tt));
      few_locals = omega arith;
      names = record { distinct = (refl, tt); allowed = (omega arith, tt) };
      pre = (tt, tt);
      post = (tt, tt);
      body = ((tt, tt), refl, refl, (refl, lit< tt), ((refl, tt), tt), tt);
      result = (refl, lit< tt);
    })
    (record {
      world = lit< tt;
      params = (omega arith, tt);
      few_locals = omega arith;
      names = record { distinct = (refl, (refl, tt)); allowed = (omega arith, (omega arith, tt)) };
      pre = (tt, tt);
      post = (((refl, refl), refl), (tt, lit< tt));
      body = ((tt, tt), refl, refl, ((refl, (refl, tt)), (refl, (refl, tt))), tt);
      result = ((refl, refl), (tt, lit< tt, lit< tt));
    })

pub mail-formed : IsFormed (mail (pos 0))
unfolding opened
mail-formed = record {
  small = record { some_node = omega arith; nodes = omega arith; labels = omega arith; protocols = omega arith; hooks = omega arith; worlds = omega arith; invariants = omega arith; procs = omega arith; points = omega arith };
  inst = record { protocols = one-of (λ n protocol. ProtocolIsFormed 2 protocol) mail_protocol mail_protocol-formed; labels = (lit< tt, tt) };
  label_names = refl;
  hooks = tt;
  worlds = (record { labels = (lit< tt, tt); hooks = tt; labels_once = (refl, tt); hooks_once = tt }, tt);
  invariants = one-of _ _ (record { world = lit< tt; formula = ((refl, refl, (((refl, refl), refl), ((refl, (refl, refl)), refl))), (((tt, lit< tt)), ((tt, lit< tt)))) });
  procs = mail-procs;
  deploy = (
    lit< tt,
    (record { node = lit< tt; proc = lit< tt; constants = refl }, (record { node = lit< tt; proc = lit< tt; constants = refl }, tt)),
    (refl, (refl, tt)),
  );
  names = record {
    distinct = (refl, (refl, (refl, (refl, (refl, (refl, tt))))));
    allowed = (omega arith, (omega arith, (omega arith, (omega arith, (omega arith, (omega arith, tt))))));
  };
  apart = (refl, tt);
}

mail-worlds : (proc : ℕ) → Injects (mail (pos 0)) (world_of (mail (pos 0)) proc) (composed (mail (pos 0)))
mail-worlds zero = injects-itself (mail (pos 0)) (composed (mail (pos 0))) refl
mail-worlds (suc zero) = injects-itself (mail (pos 0)) (composed (mail (pos 0))) refl
mail-worlds (suc (suc n)) = injects-itself (mail (pos 0)) (composed (mail (pos 0))) refl

mail-procs_keep : (proc : ℕ) → proc < 2 → ProcKeepsWorlds (mail (pos 0)) proc
unfolding opened
mail-procs_keep zero b = record { pre = refl; post = refl; body = (refl, refl, tt) }
mail-procs_keep (suc zero) b = record { pre = refl; post = refl; body = (refl, refl, tt) }
mail-procs_keep (suc (suc n)) b = absurd (omega arith)

pub mail-keeps : KeepsWorlds (mail (pos 0))
unfolding opened
mail-keeps = record {
  cores = one-of (λ n world. (hook : ℕ) → has world.hooks hook ≡ true → has world.labels (hook_at (mail (pos 0)) hook).core ≡ true) _ (λ hook m. cc);
  clients = one-of (λ n world. (hook : ℕ) → has world.hooks hook ≡ true → has world.labels (hook_at (mail (pos 0)) hook).client ≡ true) _ (λ hook m. cc);
  invariants = one-of _ _ refl;
  visible = one-of _ _ (injects-itself (mail (pos 0)) (composed (mail (pos 0))) refl);
  procs = mail-procs_keep;
  programs = λ node program e. mail-worlds program.proc;
}

-- ---- a vote and a query

vote-formed : ProtocolIsFormed 2 vote
vote-formed = record {
  few_fields = omega arith;
  few_tags = omega arith;
  field_names = record { distinct = (refl, tt); allowed = (omega arith, tt) };
  tag_names = record { distinct = (refl, tt); allowed = (omega arith, tt) };
  fields = (record { sort = bool-sort; first = (refl, lit< tt); first_in_sort = λ node b. refl }, tt);
  tags = (
    record {
      args = (omega arith, tt);
      names = record { distinct = tt; allowed = tt };
      send = record { guard = ((tt, tt), refl); updates = (record { field = refl; index = tt; value = ((refl, lit< tt), refl) }, tt); once = (refl, tt) };
      receive = record { guard = ((tt, tt), refl); updates = tt; once = tt };
    },
    tt,
  );
  coherence = tt;
}

query-formed : ProtocolIsFormed 2 query
query-formed = record {
  few_fields = omega arith;
  few_tags = omega arith;
  field_names = record { distinct = tt; allowed = tt };
  tag_names = record { distinct = (refl, tt); allowed = (omega arith, tt) };
  fields = tt;
  tags = (
    record {
      args = (omega arith, tt);
      names = record { distinct = tt; allowed = tt };
      send = record { guard = ((tt, tt), refl); updates = tt; once = tt };
      receive = record { guard = ((tt, tt), refl); updates = tt; once = tt };
    },
    tt,
  );
  coherence = tt;
}

pub voting-formed : IsFormed voting
unfolding opened
voting-formed = record {
  small = record { some_node = omega arith; nodes = omega arith; labels = omega arith; protocols = omega arith; hooks = omega arith; worlds = omega arith; invariants = omega arith; procs = omega arith; points = omega arith };
  inst = record { protocols = two-of (λ n protocol. ProtocolIsFormed 2 protocol) vote query vote-formed query-formed; labels = (lit< tt, (lit< tt, tt)) };
  label_names = refl;
  hooks = (
    record {
      core = lit< tt;
      client = lit< tt;
      tag = refl;
      args = refl;
      names = record { distinct = tt; allowed = tt };
      formula = ((((refl, refl), refl), (tt, lit< tt)), refl);
    },
    tt,
  );
  worlds = (
    record { labels = (lit< tt, (lit< tt, tt)); hooks = (lit< tt, tt); labels_once = (refl, (refl, tt)); hooks_once = (refl, tt) },
    (record { labels = (lit< tt, tt); hooks = tt; labels_once = (refl, tt); hooks_once = tt }, tt),
  );
  invariants = λ i invariant e. cc;
  procs = one-of (λ number proc. ProcIsFormed voting number proc) caster (record {
    world = lit< tt;
    params = (omega arith, tt);
    few_locals = omega arith;
    names = record { distinct = tt; allowed = tt };
    pre = (tt, tt);
    post = (tt, tt);
    body = ((tt, tt), refl, refl, (refl, lit< tt), tt, ((((refl, refl), refl), (tt, lit< tt)), refl, refl, (refl, lit< tt), tt, tt));
    result = (refl, lit< tt);
  });
  deploy = (lit< tt, (record { node = lit< tt; proc = lit< tt; constants = refl }, tt), (refl, tt));
  names = record {
    distinct = (refl, (refl, (refl, (refl, (refl, (refl, (refl, (refl, tt))))))));
    allowed = (omega arith, (omega arith, (omega arith, (omega arith, (omega arith, (omega arith, (omega arith, (omega arith, tt))))))));
  };
  apart = tt;
}

-- the one hook of the large world, and none of the small one
large-hook : (P : ℕ → Type 0) → P 0 → (hook : ℕ) → has (0 ∷ []) hook ≡ true → P hook
large-hook P h hook m = elim (either-true (hook == 0) false m) [ inl q ↦ subst P (sym (eqb-true hook 0 q)) h | inr q ↦ absurd (false≢true q) ]

with-true : (b : Bool) → b ≡ (b && true)
with-true true = refl
with-true false = refl

voting-world : (hook : ℕ) → has (0 ∷ []) hook ≡ (has (0 ∷ []) hook && has (0 ∷ 1 ∷ []) (hook_at voting hook).client)
voting-world zero = refl
voting-world (suc n) = with-true (has (0 ∷ []) (suc n))

voting-worlds : (proc : ℕ) → Injects voting (world_of voting proc) (composed voting)
voting-worlds zero = record { labels = λ label m. m; hooks = voting-world }
voting-worlds (suc n) = record { labels = λ label m. m; hooks = voting-world }

voting-procs_keep : (proc : ℕ) → proc < 1 → ProcKeepsWorlds voting proc
unfolding opened
voting-procs_keep zero b = record { pre = refl; post = refl; body = (refl, refl, (refl, refl, tt)) }
voting-procs_keep (suc n) b = absurd (omega arith)

pub voting-keeps : KeepsWorlds voting
unfolding opened
voting-keeps = record {
  cores = two-of (λ n world. (hook : ℕ) → has world.hooks hook ≡ true → has world.labels (hook_at voting hook).core ≡ true) _ _
      (large-hook (λ hook. has (0 ∷ 1 ∷ []) (hook_at voting hook).core ≡ true) refl) (λ hook m. cc);
  clients = two-of (λ n world. (hook : ℕ) → has world.hooks hook ≡ true → has world.labels (hook_at voting hook).client ≡ true) _ _
      (large-hook (λ hook. has (0 ∷ 1 ∷ []) (hook_at voting hook).client ≡ true) refl) (λ hook m. cc);
  invariants = λ i invariant e. cc;
  visible = λ i invariant e. cc;
  procs = voting-procs_keep;
  programs = λ node program e. voting-worlds program.proc;
}
