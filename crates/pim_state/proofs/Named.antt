-- The sources that facts name, of whichever group.
use Rattle.std.{proofs.{Common.{◌≡◌, ◌||◌, Bool, true, false, List, [], ◌∷◌, ◌++◌, sym, ap, ◌∙◌, arith}, Math.Bool.or_assoc, lemmas.List.Folds.list_any-append}, specs.List.list_any}
use Rattle.pim_ip.{specs.{Prefixes.contains, declared.addr.{Addr.Addr, Prefix.Prefix}}}
use Rattle.pim_types.{specs.declared.fact.Key.Key}
use Rattle.pim_model.{specs.{State.State, Tables.{Table, keys_in}, Upstream.fact_keys}}
use Rattle.pim_state.{specs.Sources.{is_from, is_within}, proofs.GatheredSources.{both_are_all, member_keys, stored_keys}}

module _ (p : Prefix) {R : Type 0} (rows rest : Table R) (e : Key × R) (is : rows ≡ e ∷ rest) where
  -- the first fact names it
  pub named_first : is_within p e.0 ≡ true → list_any (is_within p) (keys_in rows) ≡ true
  unfolding keys_in
  named_first names =
      ap (λ (t : Table R). list_any (is_within p) (keys_in t)) is
      ∙ ap (λ (b : Bool). b || list_any (is_within p) (keys_in rest)) names

  pub named_later : is_within p e.0 ≡ false
      → list_any (is_within p) (keys_in rows) ≡ list_any (is_within p) (keys_in rest)
  unfolding keys_in
  named_later names =
      ap (λ (t : Table R). list_any (is_within p) (keys_in t)) is
      ∙ ap (λ (b : Bool). b || list_any (is_within p) (keys_in rest)) names

pub none_named : (p : Prefix) {R : Type 0} (rows : Table R) → rows ≡ []
    → list_any (is_within p) (keys_in rows) ≡ false
unfolding keys_in
none_named p {R = R} rows is = ap (λ (t : Table R). list_any (is_within p) (keys_in t)) is

-- what passes among the keys of each kind of fact of PIM
pub any_of_six : (p : Key → Bool) (a b c d e f : List Key)
    → list_any p (a ++ b ++ c ++ d ++ e ++ f)
    ≡ (list_any p a || (list_any p b || (list_any p c || (list_any p d || (list_any p e || list_any p f)))))
any_of_six p a b c d e f = simp (list_any-append, or_assoc)

pub any_within : (s : State) (p : Prefix)
    → list_any (is_within p) (fact_keys s)
    ≡ (list_any (is_within p) (member_keys s) || list_any (is_within p) (stored_keys s))
any_within s p =
    ap (λ (ks : List Key). list_any (is_within p) ks) (sym (both_are_all s))
    ∙ list_any-append (is_within p) (member_keys s) (stored_keys s)

-- the prefix of one address
within_host_at : (a : Addr) (k : Key) → is_within (record { address = a; length = 32 }) k ≡ is_from a.bits k
unfolding contains
within_host_at a k = grind arith

pub within_host : (a : Addr) (keys : List Key)
    → list_any (is_within (record { address = a; length = 32 })) keys ≡ list_any (is_from a.bits) keys
within_host a keys = λ j. list_any (λ k. within_host_at a k j) keys
