-- The text that is written of a race is a text of that race.
use Rattle.std.proofs.Common.{◌≡◌, ℕ, List, [], ◌∷◌, ◌++◌, map, Option, Some, None, refl, sym, ◌∙◌, ap, append_assoc}
use Rattle.std.specs.Prelude.{codes, decimal}
use Rattle.std.specs.List.{AllByRecursion, AllZip, flat_map, join_with_byte}
use Rattle.std.proofs.lemmas.Grind.{flat_map-append}
use Rattle.std.proofs.lemmas.List.{append-nil}
use Rattle.std.proofs.lemmas.List.Concat.{flat_map-cons}
use Rattle.std.proofs.lemmas.List.Folds.{flat_map-map}
use Rattle.he_addr.specs.declared.ip.Family.{Family}
use Rattle.he_addr.specs.declared.ip.Family.TheVariants as families
use Rattle.he_addr.specs.declared.ip.Ip.{Ip}
use Rattle.he_timeline.specs.Race.{Race, Reply}
use Rattle.he_timeline.specs.Settings.{SettingValues}
use Rattle.he_timeline.specs.Timeline.{IsRace}
use Rattle.he_reading.specs.Parts.{lines_of}
use Rattle.he_text.specs.InRange.{RaceInRange}
use Rattle.he_words.specs.declared.words.Version.{Version}
use Rattle.he_words.specs.declared.words.Version.TheVariants.{One, Two}
use Rattle.he_reading.specs.Said.{Said, PolicyRow, HostSource, HostRoute, Answer, UsedBefore}
use Rattle.he_reading.specs.Text.{Says, answer_word, IsRaceText}
use Rattle.he_words.specs.Words.{header_of, spelling_of}
use Rattle.he_write.specs.Written.{setting_text, floor_text, settings_text, version_of, rtt_text, used_text, row_text, host_source_text, host_route_text, reply_text, answer_text, outcome_text, pause_text, timeline_text}
use Rattle.he_reading.proofs.LineReads.{says_read}
use Rattle.he_reading.proofs.CompleteLines.{AreShort}
use Rattle.he_reading.proofs.PartLaws.{Lacks}
use Rattle.he_text.proofs.RereadLines.{ended, lines_back, lacks_from}
use Rattle.he_text.proofs.RereadRaces.{floor_as, settings_said, answer_as, rtt_as, told_as, paused_as, told_on, used_on, rtts_on, a_on, aaaa_on, routes_on, sources_on, rows_on, race_said, said_in_order, said_of_version, settings_once, answers_once, race_back}
use Rattle.he_text.proofs.RereadRanges.{AllSpellable, race_can}
use Rattle.he_text.proofs.RereadSaid.{line_of, written_says, written_short, written_in_line, listed_text}

-- the lines that are written, each with its line end
abbrev text_of : Said → List ℕ
text_of s = ended (line_of s)

abbrev written : List Said → List ℕ
written said = flat_map text_of said

floor_written : (floor : Option ℕ) → written (floor_as floor) ≡ floor_text floor
floor_written None = refl
floor_written (Some floor) = append-nil (setting_text (codes "floor") floor)

settings_written : (settings : SettingValues) → written (settings_said settings) ≡ settings_text settings
settings_written settings =
    ap (λ floor. setting_text (codes "resolution") settings.resolution ++ (setting_text (codes "attempt") settings.attempt ++ (setting_text (codes "count") settings.count ++ (setting_text (codes "limit") settings.limit ++ floor)))) (floor_written settings.floor)
    ∙ five (setting_text (codes "resolution") settings.resolution) (setting_text (codes "attempt") settings.attempt) (setting_text (codes "count") settings.count) (setting_text (codes "limit") settings.limit) (floor_text settings.floor)
  where
    five : (a b c d e : List ℕ) → a ++ (b ++ (c ++ (d ++ e))) ≡ (a ++ b) ++ ((c ++ d) ++ e)
    five a b c d e = simp append_assoc

reply_ended : (word : List ℕ) (tick : ℕ) (ips : List Ip) → ended (join_with_byte 32 (word ∷ decimal tick ∷ listed_text ips)) ≡ reply_text word tick ips
reply_ended word tick [] = refl
reply_ended word tick (ip ∷ ips) = refl

reply_written : (family : Family) (reply : Reply) → text_of (Answer family reply) ≡ reply_text (spelling_of (answer_word family)) reply.tick reply.addresses
reply_written families.V6 reply = reply_ended (codes "aaaa") reply.tick reply.addresses
reply_written families.V4 reply = reply_ended (codes "a") reply.tick reply.addresses

answer_written : (family : Family) (answer : Option Reply) → written (answer_as family answer) ≡ answer_text (spelling_of (answer_word family)) answer
answer_written family None = refl
answer_written family (Some reply) = append-nil (text_of (Answer family reply)) ∙ reply_written family reply

joined : (xs ys : List Said) (a b : List ℕ) → written xs ≡ a → written ys ≡ b → written (xs ++ ys) ≡ a ++ b
joined xs ys a b e f = flat_map-append text_of xs ys ∙ ap (λ x. x ++ written ys) e ∙ ap (λ y. a ++ y) f

race_written : (race : Race) → written (race_said race)
    ≡ settings_text race.settings ++ (flat_map row_text race.policy ++ (flat_map host_source_text race.host.sources ++ (flat_map host_route_text race.host.routes
    ++ (answer_text (codes "aaaa") race.aaaa ++ (answer_text (codes "a") race.a ++ (flat_map rtt_text race.history.rtts ++ (flat_map used_text race.history.used ++ (flat_map outcome_text race.outcomes ++ flat_map pause_text race.pauses))))))))
race_written race =
    let told : List ℕ = flat_map outcome_text race.outcomes ++ flat_map pause_text race.pauses in
    let used : List ℕ = flat_map used_text race.history.used ++ told in
    let rtts : List ℕ = flat_map rtt_text race.history.rtts ++ used in
    let a : List ℕ = answer_text (codes "a") race.a ++ rtts in
    let aaaa : List ℕ = answer_text (codes "aaaa") race.aaaa ++ a in
    let routes : List ℕ = flat_map host_route_text race.host.routes ++ aaaa in
    let sources : List ℕ = flat_map host_source_text race.host.sources ++ routes in
    joined (settings_said race.settings) (rows_on race) (settings_text race.settings) (flat_map row_text race.policy ++ sources) (settings_written race.settings)
    (joined (map PolicyRow race.policy) (sources_on race) (flat_map row_text race.policy) sources (flat_map-map text_of PolicyRow race.policy)
    (joined (map HostSource race.host.sources) (routes_on race) (flat_map host_source_text race.host.sources) routes (flat_map-map text_of HostSource race.host.sources)
    (joined (map HostRoute race.host.routes) (aaaa_on race) (flat_map host_route_text race.host.routes) aaaa (flat_map-map text_of HostRoute race.host.routes)
    (joined (answer_as families.V6 race.aaaa) (a_on race) (answer_text (codes "aaaa") race.aaaa) a (answer_written families.V6 race.aaaa)
    (joined (answer_as families.V4 race.a) (rtts_on race) (answer_text (codes "a") race.a) rtts (answer_written families.V4 race.a)
    (joined (map rtt_as race.history.rtts) (used_on race) (flat_map rtt_text race.history.rtts) used (flat_map-map text_of rtt_as race.history.rtts)
    (joined (map UsedBefore race.history.used) (told_on race) (flat_map used_text race.history.used) told (flat_map-map text_of UsedBefore race.history.used)
    (joined (map told_as race.outcomes) (map paused_as race.pauses) (flat_map outcome_text race.outcomes) (flat_map pause_text race.pauses) (flat_map-map text_of told_as race.outcomes) (flat_map-map text_of paused_as race.pauses)))))))))

-- the whole text, line by line
lines_written : (said : List Said) → flat_map ended (map line_of said) ≡ written said
lines_written said = flat_map-map ended line_of said

abbrev header : Race → List ℕ
header race = header_of (version_of race)

abbrev all_lines : Race → List (List ℕ)
all_lines race = header race ∷ map line_of (race_said race) ++ codes "end" ∷ []

in_order : (first last settings rows sources routes aaaa a rtts used told paused : List ℕ)
    → ((first ++ settings) ++ ((rows ++ (sources ++ routes)) ++ ((aaaa ++ a) ++ ((rtts ++ used) ++ (told ++ paused))))) ++ last
    ≡ first ++ ((settings ++ (rows ++ (sources ++ (routes ++ (aaaa ++ (a ++ (rtts ++ (used ++ (told ++ paused))))))))) ++ last)
in_order first last settings rows sources routes aaaa a rtts used told paused = simp append_assoc

text_is : (race : Race) → timeline_text race ≡ flat_map ended (all_lines race)
text_is race =
    in_order (ended (header race)) (ended (codes "end")) (settings_text race.settings) (flat_map row_text race.policy) (flat_map host_source_text race.host.sources) (flat_map host_route_text race.host.routes)
    (answer_text (codes "aaaa") race.aaaa) (answer_text (codes "a") race.a) (flat_map rtt_text race.history.rtts) (flat_map used_text race.history.used) (flat_map outcome_text race.outcomes) (flat_map pause_text race.pauses)
    ∙ ap (λ t. ended (header race) ++ (t ++ ended (codes "end"))) (sym (lines_written (race_said race) ∙ race_written race))
    ∙ ap (λ t. ended (header race) ++ t) (sym (flat_map-append ended (map line_of (race_said race)) (codes "end" ∷ [])))
    ∙ sym (flat_map-cons ended (header race) (map line_of (race_said race) ++ codes "end" ∷ []))

header_lacks : (version : Version) → Lacks 10 (header_of version)
header_lacks One = lacks_from 10 (codes "race 1") refl
header_lacks Two = lacks_from 10 (codes "race 2") refl

-- each line keeps to what a line of a text does
all_say : (said : List Said) → AllSpellable said → AllZip Says (map line_of said) said
all_say [] h = tt
all_say (s ∷ said) h = (says_read (line_of s) s (written_says s h.0), all_say said h.1)

all_short : (said : List Said) → AllSpellable said → AreShort (map line_of said)
all_short [] h = tt
all_short (s ∷ said) h = (written_short s h.0, all_short said h.1)

all_in_line : (said : List Said) (last : List (List ℕ)) → AllSpellable said → AllByRecursion (Lacks 10) last → AllByRecursion (Lacks 10) (map line_of said ++ last)
all_in_line [] last h lack = lack
all_in_line (s ∷ said) last h lack = (written_in_line s h.0, all_in_line said last h.1 lack)

pub written_is_read : (race : Race) → IsRace race → RaceInRange race → IsRaceText (timeline_text race) race
written_is_read race fits small =
    let can = race_can race fits small in
    let said : List Said = race_said race in
    let lack : AllByRecursion (Lacks 10) (all_lines race) = (header_lacks (version_of race), all_in_line said (codes "end" ∷ []) can (lacks_from 10 (codes "end") refl, tt)) in
    record {
      version = version_of race;
      lines = map line_of said;
      said = said;
      parts = ap lines_of (text_is race) ∙ lines_back (all_lines race) lack ∙ ap (λ ls. header race ∷ ls) (append_assoc (map line_of said) (codes "end" ∷ []) ([] ∷ []));
      are = record {
        short = all_short said can;
        say = all_say said can;
        words = said_of_version race;
        order = said_in_order race;
        settings_once = settings_once race;
        answers_once = answers_once race;
      };
      value = race_back race fits.policy;
      fits = fits;
    }
