-- The lines of a metric in OpenMetrics text (OpenMetrics 1.0, "Text Format").
use Rattle.std.specs.Prelude.{ℕ, ◌/◌, ◌%◌, ◌++◌, List, codes, decimal}
use Rattle.std.specs.List.{flat_map}
use Rattle.he_metrics.specs.declared.samples.Sample.{Sample}

-- a line about a metric
unfoldable pub about_text : List ℕ → List ℕ → List ℕ → List ℕ
about_text what name text = what ++ (name ++ (codes " " ++ (text ++ codes "\n")))

-- its type, and the text that says what it counts
abbrev pub head_text : List ℕ → List ℕ → List ℕ → List ℕ
head_text name kind help = about_text (codes "# TYPE ") name kind ++ about_text (codes "# HELP ") name help

abbrev pub unit_text : List ℕ → List ℕ
unit_text name = about_text (codes "# UNIT ") name (codes "seconds")

-- a sample: the metric's name, with an ending and labels, and the number
unfoldable pub line_text : List ℕ → List ℕ → ℕ → List ℕ
line_text name labels number = name ++ (labels ++ (codes " " ++ (decimal number ++ codes "\n")))

abbrev pub sample_line : List ℕ → Sample → List ℕ
sample_line name sample = line_text name sample.0.now sample.1

-- milliseconds as seconds, with three digits after the point
unfoldable pub seconds_text : ℕ → List ℕ
seconds_text millis =
    decimal (millis / 1000)
    ++ (codes "." ++ (decimal (millis / 100 % 10) ++ (decimal (millis / 10 % 10) ++ decimal (millis % 10))))

-- the sum of the milliseconds of a histogram
unfoldable pub sum_text : List ℕ → ℕ → List ℕ
sum_text name millis = name ++ (codes "_sum " ++ (seconds_text millis ++ codes "\n"))

-- a metric: its head, and a line for each of its labels with their number
abbrev pub named_line : List ℕ → List ℕ × ℕ → List ℕ
named_line name sample = line_text name sample.0 sample.1

abbrev pub lines_text : List ℕ → List (List ℕ × ℕ) → List ℕ
lines_text name samples = flat_map (named_line name) samples

abbrev pub metric_text : List ℕ → List ℕ → List ℕ → List (List ℕ × ℕ) → List ℕ
metric_text name kind help samples = head_text name kind help ++ lines_text name samples
