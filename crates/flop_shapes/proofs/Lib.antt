mod BitForms
mod TestForms
mod NumberForms
