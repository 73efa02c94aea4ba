-- The checks passed are those of the definition; after the push the table holds the clause more, or what it held.
use Rattle.std.proofs.Common.{◌≡◌, ◌+◌, true, ltb, leb, [], ◌∷◌, ◌++◌, length, is_ok, sym, refl, ap, ◌∙◌, arith}
use Rattle.std.proofs.lemmas.Bool.{and_from, cond_both, lt-ltb, le-leb}
use Rattle.laws.specs.Clauses.{lawful, literals}
use Rattle.table.specs.Codes.{codes_of}
use Rattle.table.specs.Held.{tab_of, clauses_of}
use Rattle.table.proofs.Growth.{codes_pushed}
use Rattle.edits.specs.Growth.{appendable}
use Rattle.edits.proofs.Legal.{Legal, legal_table, owed, legal_appended}
use Rattle.edits.proofs.growing.append.Goals as goal
use Rattle.edits.proofs.growing.append.Goals.{After-push}

-- the checks that passed are those of the definition
passed : (c : After-push) → appendable (tab_of c.args.table.now) (codes_of c.args.clause) ≡ true
passed c =
    let t = c.args.table.now in
    let Cs = clauses_of t in
    let D = codes_of c.args.clause in
    let size = ap length c.codes-size.ensures in
    let one : lawful t.last D ≡ true = ap (lawful t.last) (sym c.codes.ensures) ∙ sym c.is_lawful.ensures ∙ c.if-not-is_lawful.false in
    let few = lt-ltb (length Cs) 1024 (omega (arith, c.clause_count.ensures)) in
    let small = le-leb (literals Cs + length D) 8192 (omega (arith, c.literal_count.ensures, size)) in
    and_from (lawful t.last D) _ one (and_from (ltb (length Cs) 1024) (leb (literals Cs + length D) 8192) few small)

pub invariant_of-table : goal.invariant_of-table
invariant_of-table c =
    let t = c.args.table.now in
    let Cs = clauses_of t in
    let D = codes_of c.args.clause in
    let b = is_ok c.push.result in
    let ok = legal_table t in
    owed t.last c.push.new.self _
    (codes_pushed b t.clauses.items c.push.new.self.items c.args.clause D refl c.push.ensures.items)
    (cond_both b (Cs ++ D ∷ []) Cs (Legal t.last) (λ _. legal_appended t.last Cs ok D (passed c)) (λ _. ok))

pub returns : goal.returns
returns c =
    let t = c.args.table.now in
    let pushed = codes_pushed true t.clauses.items c.push.new.self.items c.args.clause (codes_of c.args.clause) refl c.in_ok-push.ensures.items in
    record { came = (passed (goal.at.returns c).After-push, ap (λ As. record { last = t.last; clauses = As }) pushed) }
