-- A fault of the text is the input's own, stands whatever follows, or is that of a group of lines at a break.
use Rattle.std.proofs.Common.{ℕ, ◌≡◌, ◌+◌, ◌++◌, ◌⊎◌, ◌==◌, List, [], ◌∷◌, length, Bool, true, false, Option, Some, None, ap, subst, sym, ◌∙◌, refl, arith, inl, inr, append_assoc}
use Rattle.std.proofs.lemmas.List.{length-append}
use Rattle.std.proofs.lemmas.List.Splits.{length-slice_split}
use Rattle.he_words.specs.declared.fault.TextFault.{TextFault}
use Rattle.he_words.specs.declared.fault.TextKind.{TextKind}
use Rattle.he_words.specs.declared.fault.TextKind.TheVariants as kinds
use Rattle.he_inputs.specs.Beginnings.{FaultStands, IsGroupFaultAtEnd, MayChange}
use Rattle.he_reading.specs.Parts.{lines_of}
use Rattle.he_inputs.specs.declared.input_fault.InputFault.{InputFault}
use Rattle.he_inputs.specs.declared.input_fault.InputFault.TheVariants.{Text, Read}
use Rattle.he_inputs.specs.Inputs.{IsFaultBehind, fault_behind, line_count}
use Rattle.he_inputs.specs.Recorded.{recorded_fault}
use Rattle.he_inputs.proofs.RaceReadingLaws.{line_count-append}
use Rattle.he_streaming.specs.Known.{IsKnown}
use Rattle.he_streaming.specs.Output.{IsOutput, TextRelation}

-- a fault that is told of an input that broke off is told of one that ended too
however_it_ends : (is_broken : Bool) (lines n : ℕ) (kind : TextKind) (fault : TextFault) → Some (Text fault) ≡ Some (fault_behind true lines (n, kind)) → Some (Text fault) ≡ Some (fault_behind is_broken lines (n, kind))
however_it_ends true lines n kind fault e = e
however_it_ends false lines n kinds.Header fault e = e
however_it_ends false lines n kinds.Word fault e = e
however_it_ends false lines n kinds.Number fault e = e
however_it_ends false lines n kinds.Address fault e = e
however_it_ends false lines n kinds.Prefix fault e = e
however_it_ends false lines n kinds.Repeated fault e = e
however_it_ends false lines n kinds.Range fault e = e
however_it_ends false lines n kinds.TooMany fault e = e
however_it_ends false lines n kinds.Unfinished fault e = cc
however_it_ends false lines n (kinds.Policy table) fault e = e
however_it_ends false lines n kinds.Memory fault e = e

-- the kind and the line of a fault of the text
kind_in : Option InputFault → TextKind
kind_in (Some (Text fault)) = fault.kind
kind_in (Some Read) = kinds.Memory
kind_in None = kinds.Memory

line_in : Option InputFault → ℕ
line_in (Some (Text fault)) = fault.line
line_in (Some Read) = 0
line_in None = 0

-- what is told of a group's fault on the last line
abbrev IsTold : ℕ → List ℕ → TextFault → Type 0
IsTold lines rest fault = IsGroupFaultAtEnd rest (line_count rest) fault.kind × (fault.line ≡ lines + line_count rest)

group_told : (lines : ℕ) (rest : List ℕ) (n : ℕ) (kind : TextKind) (fault : TextFault) → Some (Text fault) ≡ Some (Text (record { line = lines + n; kind = kind })) → IsGroupFaultAtEnd rest n kind → IsTold lines rest fault
unfolding line_in kind_in
group_told lines rest n kind fault same group =
    let (before, parts, number) = group.ends in
    let line : fault.line ≡ lines + n = ap line_in same in
    let count : length (lines_of rest) ≡ _ = length-slice_split (λ b. b == 10) rest in
    let two_more : length (lines_of rest) ≡ length before + 2 = ap length parts ∙ length-append before (group.line ∷ group.rest ∷ []) in
    let last : n ≡ line_count rest = omega arith in
    (subst (λ k. IsGroupFaultAtEnd rest (line_count rest) k) (sym (ap kind_in same)) (subst (λ m. IsGroupFaultAtEnd rest m kind) last group), omega arith)

-- a fault that what follows may mend is that of a group, on the last line
group_behind : (lines : ℕ) (rest : List ℕ) (n : ℕ) (kind : TextKind) (fault : TextFault) → Some (Text fault) ≡ Some (fault_behind true lines (n, kind)) → MayChange rest n kind → IsTold lines rest fault
unfolding line_in kind_in
group_behind lines rest n kind fault told (inl unfinished) =
    let bad : Some (Text fault) ≡ Some Read = told ∙ ap (λ k. Some (fault_behind true lines (n, k))) unfinished in cc
group_behind lines rest n kinds.Header fault told (inr group) = group_told lines rest n kinds.Header fault told group
group_behind lines rest n kinds.Word fault told (inr group) = group_told lines rest n kinds.Word fault told group
group_behind lines rest n kinds.Number fault told (inr group) = group_told lines rest n kinds.Number fault told group
group_behind lines rest n kinds.Address fault told (inr group) = group_told lines rest n kinds.Address fault told group
group_behind lines rest n kinds.Prefix fault told (inr group) = group_told lines rest n kinds.Prefix fault told group
group_behind lines rest n kinds.Repeated fault told (inr group) = group_told lines rest n kinds.Repeated fault told group
group_behind lines rest n kinds.Range fault told (inr group) = group_told lines rest n kinds.Range fault told group
group_behind lines rest n kinds.TooMany fault told (inr group) = group_told lines rest n kinds.TooMany fault told group
group_behind lines rest n kinds.Unfinished fault told (inr group) = cc
group_behind lines rest n (kinds.Policy table) fault told (inr group) = group_told lines rest n (kinds.Policy table) fault told group
group_behind lines rest n kinds.Memory fault told (inr group) = group_told lines rest n kinds.Memory fault told group

module _
    (faults_stand : (text : List ℕ) (line : ℕ) (kind : TextKind) → recorded_fault text ≡ Some (line, kind) → MayChange text line kind ⊎ FaultStands text line kind)
  where
    -- a fault of what stands after whole races of a broken input stands whatever follows, or is a group's
    known_behind : (count lines : ℕ) (rest : List ℕ) (fault : TextFault) → IsFaultBehind true count lines rest (Some (Text fault))
        → ((more : List ℕ) (is_broken : Bool) → IsFaultBehind is_broken count lines (rest ++ more) (Some (Text fault))) ⊎ IsTold lines rest fault
    known_behind count lines [] fault is = cc
    known_behind count lines (byte ∷ rest) fault (inl most) = inl (λ more is_broken. inl most)
    known_behind count lines (byte ∷ rest) fault (inr (few, (n, kind), is, told)) =
        elim (faults_stand (byte ∷ rest) n kind is) [
          | inl may ↦ inr (group_behind lines (byte ∷ rest) n kind fault told may)
          | inr stands ↦ inl (λ more is_broken. inr (few, (n, kind), stands more, however_it_ends is_broken lines n kind fault told))
        ]

    pub known : (IsText : TextRelation) (input : List ℕ) (is_broken : Bool) (text : List ℕ) (fault : TextFault) → IsOutput IsText input is_broken text (Some (Text fault)) → IsKnown IsText input is_broken text fault
    known IsText input false text fault output = inl refl
    known IsText input true text fault output =
        let has = output.has in
        elim (known_behind (length output.races) (line_count has.before) has.rest fault has.fault_is) [
          | inl stands ↦ inr (inl (λ more is_broken. record {
            races = output.races;
            has = record {
              before = has.before;
              rest = has.rest ++ more;
              parts = ap (λ i. i ++ more) has.parts ∙ append_assoc has.before has.rest more;
              whole = has.whole;
              few = has.few;
              fault_is = stands more is_broken;
            };
            told = output.told;
          }))
          | inr (group, line) ↦ inr (inr (record {
            broken = refl;
            before = has.before;
            race = has.rest;
            parts = has.parts;
            at_end = group;
            last = line ∙ sym (line_count-append has.before has.rest) ∙ sym (ap line_count has.parts);
          }))
        ]
