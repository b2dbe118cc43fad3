-- What the parse of a command line gives, in the words of its meaning.
use Rattle.std.{proofs.{Common.{◌≡◌, ◌≢◌, ◌∙◌, sym, ap, subst, refl, true, Bor, List, [], ◌∷◌, map, Option, None, Some, option_map, unwrap_or, Result, IfOk}, lemmas.Result.IfOk-weaker}}
use Rattle.clap.{specs.{Words.{App, Text, Kinds, HasKind, HasMatchesOf, is_simple, is_simple_and_free, fault_of, subcommand_of, subcommand_rows_of}, declared.{parser.matches.ArgMatches.ArgMatches, error.Error.Error}}, proofs.{OnLiterals.clap_on_literals, WalkLemmas.IfOk-both}}
use Rattle.pim_ip.{specs.declared.fault.Fault.Fault}
use Rattle.pim_scenario.{specs.{declared.command_line.Answer.Answer, CommandLine.{Meaning, pimlab_app, meaning_of, meaning_unless, meant_by, words_in, CanAnswer}}}

-- the words below are all of what clap does with such commands
pub pimlab_is_simple : is_simple pimlab_app ≡ true
unfolding clap_on_literals
pimlab_is_simple = refl

pub pimlab_is_free : is_simple_and_free pimlab_app ≡ true
unfolding clap_on_literals
pimlab_is_free = refl

-- a command line in which no mistake was found
pub taken_kinds : (a : App) (words : List Text) → a ≡ pimlab_app
    → (is_simple_and_free a ≡ true → fault_of a words ≡ []) → fault_of pimlab_app words ≡ []
taken_kinds a words e kinds =
    ap (λ (x : App). fault_of x words) (sym e) ∙ kinds (ap is_simple_and_free e ∙ pimlab_is_free)

pub taken : (a : App) (words : List Text) (m : ArgMatches) → a ≡ pimlab_app → HasMatchesOf a words m
    → (is_simple_and_free a ≡ true → fault_of a words ≡ [])
    → meant_by (subcommand_rows_of m) ≡ meaning_of words
unfolding meaning_of
taken a words m e matches kinds =
    let entered = (matches (ap is_simple e ∙ pimlab_is_simple)).1 ∙ ap (λ (x : App). subcommand_of x words) e in
    ap meant_by entered
    ∙ ap (λ (k : Kinds). meaning_unless k (meant_by (subcommand_of pimlab_app words)))
    (sym (taken_kinds a words e kinds))

-- a command line with a mistake, or one that asks for help
nothing_meant : (k : Kinds) (m : Option Meaning) → k ≢ [] → None ≡ meaning_unless k m
nothing_meant [] m some = absurd (some refl)
nothing_meant (x ∷ xs) m some = refl

pub has_kind : (a : App) (words : List Text) (x : Error) → a ≡ pimlab_app
    → (is_simple_and_free a ≡ true → HasKind (fault_of a words) x)
    → HasKind (fault_of pimlab_app words) x
has_kind a words x e kinds =
    subst (λ (k : App). HasKind (fault_of k words) x) e (kinds (ap is_simple_and_free e ∙ pimlab_is_free))

pub untaken : (r : Result Answer Fault) (a : App) (words : List Text) (x : Error) → a ≡ pimlab_app
    → (is_simple_and_free a ≡ true → HasKind (fault_of a words) x)
    → IfOk r (λ y. words_in y ≡ None)
    → IfOk r (λ y. (kinds : Kinds) → HasKind kinds x → (kinds ≢ []) × CanAnswer y kinds)
    → IfOk r (λ y. words_in y ≡ meaning_of words)
unfolding meaning_of
untaken r a words x e kinds none answers =
    IfOk-weaker r _ _
    (λ y both. both.0 ∙ nothing_meant (fault_of pimlab_app words) _ (both.1 _ (has_kind a words x e kinds)).0)
    (IfOk-both r _ _ none answers)

pub untaken_answer : (r : Result Answer Fault) (a : App) (words : List Text) (x : Error) → a ≡ pimlab_app
    → (is_simple_and_free a ≡ true → HasKind (fault_of a words) x)
    → IfOk r (λ y. (kinds : Kinds) → HasKind kinds x → (kinds ≢ []) × CanAnswer y kinds)
    → IfOk r (λ y. CanAnswer y (fault_of pimlab_app words))
untaken_answer r a words x e kinds answers =
    IfOk-weaker r _ _ (λ y all. (all _ (has_kind a words x e kinds)).1) answers

-- ---- all values of an option

-- what is read of an option with values, and of one without
pub some_values : (o : Option (Bor (List (Bor Text)))) (given : Bor (List (Bor Text))) (t : Option (List Text)) → o ≡ Some given
    → option_map (λ s. map (λ v. v.now) s.now) o ≡ t → map (λ v. v.now) given.now ≡ unwrap_or t []
some_values o given t is e =
    ap (λ (x : Option (List Text)). unwrap_or x []) (sym (ap (option_map (λ s. map (λ v. v.now) s.now)) is) ∙ e)

pub no_values : (o : Option (Bor (List (Bor Text)))) (t : Option (List Text)) → o ≡ None
    → option_map (λ s. map (λ v. v.now) s.now) o ≡ t → [] ≡ unwrap_or t []
no_values o t is e =
    ap (λ (x : Option (List Text)). unwrap_or x []) (sym (ap (option_map (λ s. map (λ v. v.now) s.now)) is) ∙ e)
