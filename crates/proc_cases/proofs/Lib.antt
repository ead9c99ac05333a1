mod MaskForms
mod CaseLemmas
